-- A drawing: its shapes and its words, and their text as an SVG document.
use Rattle.std.specs.Prelude.{ℕ, ◌+◌, ◌-◌, pos, List, [], ◌∷◌, ◌++◌, codes, Option}
use Rattle.std.specs.List.{flat_map, range_with_len}
use Rattle.std.specs.Fmt.{decimal}
use Rattle.progression.specs.Street.{Street, count, signal_of}
use Rattle.progression.specs.BaseRecord.{BaseRecord}
use Rattle.progression.specs.TimingRecord.{TimingRecord, base}
use Rattle.diagram_draw.specs.declared.paint.Paint.{Paint}
use Rattle.diagram_draw.specs.declared.paint.Paint.TheVariants as paint
use Rattle.diagram_draw.specs.declared.shape.Shape.{Shape}
use Rattle.diagram_draw.specs.declared.shape.Shape.TheVariants as shape
use Rattle.diagram_draw.specs.declared.frame.Frame.{Frame}
use Rattle.diagram_draw.specs.Shapes.{Caption, Sized, shapes_text, captions_text, sizeds_text}
use Rattle.diagram_draw.specs.Escapes.{escaped}
use Rattle.diagram_draw.specs.Frames.{frame_of, bar_height, plot_width, plot_bottom, page_width, page_height, shown_width, shown_height}
use Rattle.diagram_draw.specs.Bars.{all_bars}
use Rattle.diagram_draw.specs.Bands.{all_pieces}
use Rattle.diagram_draw.specs.Axes.{back}
use Rattle.diagram_draw.specs.Steps.{steps}
use Rattle.timing_words.specs.Numbers.{tenths_text}
use Rattle.diagram_draw.specs.Captions.{title_text, facts_text, offset_text, heads, names, captions}

pub record Drawing : Type 0 where
  pub frame : Frame
  pub title : List ℕ
  pub about : List ℕ
  pub back : List Shape  -- what stands behind
  pub field : List Shape  -- what is seen through the field of the diagram: the bands, and over them the bars
  pub steps : List Shape  -- where lines step
  pub keys : List Shape  -- what explains it
  pub heads : List Sized  -- the name of the street, what is measured and the title of the plan
  pub names : List Sized  -- the names of the signals
  pub words : List Caption

-- ---- what the shapes mean, below the field
abbrev pub key_top : Frame → ℕ
key_top f = plot_bottom f + 700

-- and in a second row
abbrev pub second_key : Frame → ℕ
second_key f = plot_bottom f + 950

abbrev pub key_bar : Frame → ℕ → ℕ → Paint → List Shape
key_bar f x top p =
    shape.Rect paint.Ground (pos (f.left + x)) (pos top) (pos (f.left + x + 400)) (pos (top + bar_height))
    ∷ shape.Rect p (pos (f.left + x + 60)) (pos top) (pos (f.left + x + 340)) (pos (top + bar_height))
    ∷ []

-- a piece of a band, from this level to that
abbrev pub key_piece : Frame → ℕ → Paint → ℕ → ℕ → Shape
key_piece f x p from to =
    shape.Slant p (record { left = pos (f.left + x); right = pos (f.left + x + 220); level = pos from })
    (record { left = pos (f.left + x + 200); right = pos (f.left + x + 420); level = pos to })

unfoldable pub key_shapes : Frame → List Shape
key_shapes f =
    key_bar f 0 (key_top f) paint.CommonRed ++ (key_bar f 1500 (key_top f) paint.TurnRed ++ (key_bar f 0 (second_key f) paint.OutWindow
    ++ (key_piece f 4100 paint.OutBand (key_top f + 170) (key_top f - 80) ∷ (key_piece f 6500 paint.InBand (key_top f - 80) (key_top f + 170) ∷ []))))

-- ---- what is read aloud
unfoldable pub signal_about : Street → BaseRecord → ℕ → List ℕ
signal_about a b i = codes "; signal " ++ (decimal i ++ (codes ", " ++ (escaped (signal_of a i).name ++ (codes ", offset " ++ (offset_text a b i ++ codes " s")))))

abbrev pub signals_about : Street → BaseRecord → List ℕ
signals_about a b = flat_map (signal_about a b) (range_with_len 1 (count a))

unfoldable pub about_text : Street → TimingRecord → List ℕ
about_text a t = facts_text a t ++ signals_about a (base t)

-- ---- the drawing of a timing
-- the bands, and over them the bars
unfoldable pub field_shapes : Frame → Street → TimingRecord → List Shape
field_shapes f a t = all_pieces f a t ++ all_bars f a t

abbrev pub drawn : Frame → Street → TimingRecord → Option (List ℕ) → Drawing
drawn f a t title = record {
  frame = f;
  title = title_text a title;
  about = about_text a t;
  back = back f a (base t);
  field = field_shapes f a t;
  steps = steps f a t;
  keys = key_shapes f;
  heads = heads f a t title;
  names = names f a;
  words = captions f a t;
}

-- with the title of the plan, where it has one
abbrev pub drawing : Street → TimingRecord → Option (List ℕ) → Drawing
drawing a t title = drawn (frame_of a t) a t title

-- ---- its text
-- how things are painted, by their classes
abbrev pub lines_style : List ℕ
lines_style = codes ".paper{fill:#fff}.plot{fill:#fbfbf9;stroke:#444;stroke-width:12}.second{stroke:#dcdcd8;stroke-width:8}.cycle{stroke:#777;stroke-width:12;stroke-dasharray:60 50}.level{stroke:#bbb;stroke-width:8}\n"

abbrev pub bands_style : List ℕ
bands_style = codes ".out{fill:#0072b2;fill-opacity:.3;stroke:#005a8e;stroke-width:14}.in{fill:#e69f00;fill-opacity:.38;stroke:#a86b00;stroke-width:14;stroke-dasharray:70 40}.out-line,.in-line{stroke:#005a8e;stroke-width:20;stroke-dasharray:140 70}.in-line{stroke:#a86b00}\n"

abbrev pub bars_style : List ℕ
bars_style = codes ".ground{fill:#fff;stroke:#444;stroke-width:8}.red{fill:#3a0d12}.turn{fill:url(#turn)}.out-at{fill:#0072b2}.in-at{fill:#e69f00}.step{stroke:#222;stroke-width:30}\n"

abbrev pub sizes_style : List ℕ
sizes_style = codes ".title{font-weight:bold}.head,.head-end,.head-middle,.note{font-size:118px;fill:#555}.mark{font-size:100px}\n"

abbrev pub words_style : List ℕ
words_style = codes ".number{font-size:140px}.axis,.key{font-size:125px;fill:#444}.number,.head-end{text-anchor:end}.axis,.head-middle{text-anchor:middle}\n"

abbrev pub fonts_style : List ℕ
fonts_style = codes "text{font-family:Helvetica,Arial,'Liberation Sans',sans-serif;fill:#222}\n"

unfoldable pub style_text : List ℕ
style_text = codes "<style>\n" ++ (fonts_style ++ (sizes_style ++ (words_style ++ (lines_style ++ (bands_style ++ (bars_style ++ codes "</style>\n"))))))

-- the hatching of the rest of a red: a tile that comes again
unfoldable pub tile_text : List ℕ
tile_text = codes "<pattern id=\"turn\" width=\"56\" height=\"56\" patternUnits=\"userSpaceOnUse\" patternTransform=\"rotate(45)\"><path fill=\"#f3d9d9\" d=\"M0,0H56V56H0z\"/><path fill=\"#3a0d12\" d=\"M0,0H28V56H0z\"/></pattern>\n"

-- through which the field is seen
abbrev pub plot_height : Frame → ℕ
plot_height f = f.span + 520

unfoldable pub plot_clip : Frame → List ℕ
plot_clip f =
    codes "<clipPath id=\"plot\"><rect x=\"" ++ (decimal f.left ++ (codes "\" y=\"1500\" width=\"" ++ (decimal (plot_width f) ++ (codes "\" height=\""
    ++ (decimal (plot_height f) ++ codes "\"/></clipPath>\n")))))

-- tenths of a millimetre
abbrev pub paper_text : ℕ → List ℕ
paper_text n = tenths_text n ++ codes "mm\""

unfoldable pub size_text : Frame → List ℕ
size_text f = codes " width=\"" ++ (paper_text (shown_width f) ++ (codes " height=\"" ++ paper_text (shown_height f)))

unfoldable pub box_text : Frame → List ℕ
box_text f = codes " viewBox=\"0 0 " ++ (decimal (page_width f) ++ (codes " " ++ (decimal (page_height f) ++ codes "\"")))

unfoldable pub svg_opening : Frame → List ℕ
svg_opening f =
    codes "<svg xmlns=\"http://www.w3.org/2000/svg\"" ++ (size_text f ++ (box_text f ++ codes " role=\"img\" aria-labelledby=\"title desc\">\n"))

unfoldable pub title_part : List ℕ → List ℕ
title_part title = codes "<title id=\"title\">" ++ (title ++ codes "</title>\n")

unfoldable pub about_part : List ℕ → List ℕ
about_part about = codes "<desc id=\"desc\">" ++ (about ++ codes "</desc>\n")

abbrev pub opening_text : Drawing → List ℕ
opening_text w = svg_opening w.frame ++ (title_part w.title ++ about_part w.about)

unfoldable pub definitions_text : Frame → List ℕ
definitions_text f = codes "<defs>\n" ++ (tile_text ++ (plot_clip f ++ codes "</defs>\n"))

unfoldable pub field_part : List Shape → List ℕ
field_part shapes = codes "<g clip-path=\"url(#plot)\">\n" ++ (shapes_text shapes ++ codes "</g>\n")

unfoldable pub head_text : Drawing → List ℕ
head_text w = opening_text w ++ (style_text ++ definitions_text w.frame)

unfoldable pub body_text : List Shape → List Shape → List Shape → List ℕ
body_text back field steps = shapes_text back ++ (field_part field ++ field_part steps)

unfoldable pub tail_text : Drawing → List ℕ
tail_text w = shapes_text w.keys ++ (sizeds_text w.heads ++ (sizeds_text w.names ++ (captions_text w.words ++ codes "</svg>\n")))

abbrev pub svg_text : Drawing → List ℕ
svg_text w = head_text w ++ (body_text w.back w.field w.steps ++ tail_text w)
