-- What contracts see of commands and of refusals.
use Rattle.std.specs.Prelude.{◌≡◌, [], ◌∷◌, map, string_bytes}
use Rattle.c_text.specs.declared.refusals.Fail.{Fail}
use Rattle.c_text.specs.declared.refusals.Fail.TheVariants as early
use Rattle.vector_types.specs.declared.units.CheckFail.{CheckFail}
use Rattle.vector_types.specs.declared.units.CheckFail.TheVariants.{Refused, Memory}
use Rattle.simd_top.specs.declared.words.Command.{Command as CodeCommand}
use Rattle.simd_top.specs.declared.words.Command.TheVariants as code
use Rattle.simd_top.specs.Words.{Command, Migrate, Run, Both}

abbrev pub command_of : CodeCommand → Command
command_of code.Migrate = Migrate
command_of (code.Run dialect name turns items) = Run dialect name.now turns (map (λ w. string_bytes w) items.now)
command_of (code.Both name turns items) = Both name.now turns (map (λ w. string_bytes w) items.now)

-- the refusal of an early phase as a list; memory may run out for it
abbrev pub IsAlone : Fail → CheckFail → Type 0
IsAlone (early.Refused r) (Refused list) = list.items ≡ r ∷ []
IsAlone early.Memory (Refused list) = ⊥
IsAlone fail Memory = Unit {0}
