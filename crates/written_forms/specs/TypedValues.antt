-- The relation of values between a typed source and what is written for it: each value is one of its type, and the other is as it is written.
use Rattle.c_memory.specs.Values.{IsOfType}
use Rattle.simulation.specs.Alike.{Relation}
use Rattle.simulation.specs.WrittenValues.{WrittenValues}

abbrev pub TypedValues : Relation
TypedValues t v w = WrittenValues t v w × IsOfType t v
