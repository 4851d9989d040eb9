-- Names of a source that may be declared are names in the text that is written.
use Rattle.std.proofs.Common.{◌≡◌, refl, ℕ, false, List, Option, Some, None, is_some}
use Rattle.std.specs.Prelude.{bytes_eq}
use Rattle.c_text.specs.declared.tokens.Dialect.TheVariants.{X86, Neon}
use Rattle.std.specs.Map.{lookup}
use Rattle.c_tree.specs.declared.types.CType.{CType}
use Rattle.c_tree.specs.Vectors.{vectors}
use Rattle.c_parse.specs.declared.symbols.Symbol.{Symbol}
use Rattle.c_parse.specs.declared.symbols.Symbol.TheVariants as symbols
use Rattle.c_parse.specs.Symbols.{name_symbol, or_symbol, type_words, vector_symbol, plain_symbol}
use Rattle.object_types.specs.Reserved.{is_vector_type, is_predefined}
use Rattle.round_trip.specs.Good.{GoodName}
use Rattle.read_units.specs.Read.{ReadName}

-- a name that no type of a vector and no macro of the Neon dialect has
pub record Free (x : List ℕ) : Type 0 where
  pub no_vector : is_vector_type x ≡ false
  pub no_macro : is_predefined Neon x ≡ false

not_found : {A : Type 0} (o : Option A) → is_some o ≡ false → o ≡ None
not_found None h = refl
not_found (Some x) h = absurd (cc)

plain_name : (x : List ℕ) → name_symbol X86 x ≡ symbols.Name → is_vector_type x ≡ false → name_symbol Neon x ≡ symbols.Name
plain_name x h v = at (lookup (bytes_eq x) type_words) (lookup (bytes_eq x) (vectors X86)) (not_found (lookup (bytes_eq x) (vectors Neon)) v) h
  where
    at : (o : Option Symbol) (m : Option CType) → lookup (bytes_eq x) (vectors Neon) ≡ None → or_symbol o (λ s. s) (or_symbol m vector_symbol (plain_symbol x)) ≡ symbols.Name
        → or_symbol o (λ s. s) (or_symbol (lookup (bytes_eq x) (vectors Neon)) vector_symbol (plain_symbol x)) ≡ symbols.Name
    at (Some s) m e g = g
    at None (Some t) e g = absurd (cc)
    at None None e g = rw e g

pub good_name : (x : List ℕ) → ReadName x → Free x → GoodName x
good_name x r f = record { named = r.named; free = plain_name x r.free f.no_vector; no_macro = f.no_macro }
