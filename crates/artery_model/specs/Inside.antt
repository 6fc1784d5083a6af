-- What contracts see of an artery.
use Rattle.progression.specs.Street.{Street}
use Rattle.artery_model.specs.declared.artery.Artery.TheInside.{Inside}

abbrev pub street_of : Inside → Street
street_of a = record { head = a.head; signals = a.signals.items; links = a.links.items }
