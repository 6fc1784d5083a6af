-- The row of a command, and its page.
use Rattle.std.specs.Prelude.{ℕ, Bool, List}
use Rattle.run_inputs.specs.declared.reader.ReadAs.{ReadAs}
use Rattle.run_commands.specs.declared.settings.Setting.{Setting}
use Rattle.run_commands.specs.declared.table.CommandRow as code
use Rattle.run_commands.specs.declared.table.Page as code_page

-- its first word, the files that it reads, whether the next word names a file that it may put, what the other words say, whether any of several best
-- answers may be told, what it does, and what stands for the file that it may put
pub record Row : Type 0 where
  pub word : List ℕ
  pub reads : List ReadAs
  pub puts : Bool
  pub settings : List Setting
  pub chooses : Bool
  pub does : List ℕ
  pub put_name : List ℕ

-- what the file is that it may put, what it prints by status, and examples
pub record Page : Type 0 where
  pub put : List ℕ
  pub prints : List ℕ
  pub examples : List ℕ

abbrev Text : Type 0
Text = record { now : List ℕ }

abbrev pub row_of : Text × record { now : List ReadAs } × Bool × record { now : List Setting } × Bool × Text × Text → Row
row_of p = record { word = p.0.now; reads = p.1.now; puts = p.2; settings = p.3.now; chooses = p.4; does = p.5.now; put_name = p.6.now }

abbrev pub page_of : Text × Text × Text → Page
page_of p = record { put = p.0.now; prints = p.1.now; examples = p.2.now }

abbrev pub row_view : code.CommandRow → Row
row_view r = record { word = r.word.now; reads = r.reads.now; puts = r.puts; settings = r.settings.now; chooses = r.chooses; does = r.does.now; put_name = r.put_name.now }

abbrev pub page_view : code_page.Page → Page
page_view p = record { put = p.put.now; prints = p.prints.now; examples = p.examples.now }
