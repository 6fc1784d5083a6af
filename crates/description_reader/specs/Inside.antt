-- What contracts see of a plan.
use Rattle.description_reader.specs.Typed.{Typed}
use Rattle.description_reader.specs.declared.typed.TypedPlan.TheInside.{Inside}

abbrev pub typed_of : Inside → Typed
typed_of p = record {
  cycle = p.cycle;
  offsets = p.offsets.items;
  reference = p.reference;
  patterns = p.patterns.items;
  measure_out = p.measure_out;
  out = p.out.items;
  measure_in = p.measure_in;
  back = p.back.items;
}
