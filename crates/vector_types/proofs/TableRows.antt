-- Looking a name up among the rows of a table that were added one by one gives what the table finds.
use mathlib.Core.Path.{fun_ext}
use Rattle.std.proofs.Common.{◌≡◌, ◌∙◌, ℕ, Bool, true, false, if◌then◌else◌, List, [], ◌∷◌, ◌++◌, Option, Some, None, is_some, option_map, find, refl, sym, ap}
use Rattle.std.specs.Cmp.Lexicographic.{bytes_decides}
use Rattle.c_text.specs.declared.tokens.Dialect.TheVariants.{X86, Neon}
use Rattle.row_names.specs.Groups.{first_named}
use Rattle.intel_table.specs.Rows as intel
use Rattle.neon_table.specs.declared.NeonOp.{NeonOp}
use Rattle.neon_table.specs.Rows as neon
use Rattle.scopes.specs.declared.names.Names.{Names}
use Rattle.scopes.specs.declared.environment.Row.{Row as CodeRow}
use Rattle.c_text.specs.declared.tokens.Dialect.{Dialect}
use Rattle.scopes.specs.Scopes.{Env, Row, Scope, Callee, row, named, or_else, same_name, entries_of, rows_of}
use Rattle.scopes.proofs.Entries.{named_row, or_else-assoc}
use Rattle.vector_types.specs.Rows.{row_told, row_of_table, is_neon_row}

-- names that are the same
same_is : (x y : List ℕ) → same_name x y ≡ true → x ≡ y
same_is x y h = (bytes_decides x y).0 h

alike : (a b : Bool) → (a ≡ true → b ≡ true) → (b ≡ true → a ≡ true) → a ≡ b
alike true b f g = sym (f refl)
alike false true f g = g refl
alike false false f g = refl

same_turned : (x y : List ℕ) → same_name x y ≡ same_name y x
same_turned x y = alike (same_name x y) (same_name y x) (λ h. (bytes_decides y x).1 (sym ((bytes_decides x y).0 h))) (λ h. (bytes_decides x y).1 (sym ((bytes_decides y x).0 h)))

-- a name behind others
past : {V : Type 0} (b : Bool) (v : V) (m n o : Option V) → n ≡ or_else m o → (if b then Some v else n) ≡ or_else (if b then Some v else m) o
past true v m n o h = refl
past false v m n o h = h

named-append : {V : Type 0} (x : List ℕ) (es fs : List (List ℕ × V)) → named x (es ++ fs) ≡ or_else (named x es) (named x fs)
named-append x [] fs = refl
named-append x (e ∷ es) fs = past (same_name x e.0) e.1 (named x es) (named x (es ++ fs)) (named x fs) (named-append x es fs)

else_none : {V : Type 0} (m : Option V) → m ≡ or_else m None
else_none (Some v) = refl
else_none None = refl

else_some : {V : Type 0} (m o : Option V) → is_some m ≡ true → m ≡ or_else m o
else_some (Some v) o h = refl
else_some None o h = cc

pub kept_name : {V : Type 0} (es : List (List ℕ × V)) (y : List ℕ) (v : V) → is_some (named y es) ≡ true → (x : List ℕ) → named x es ≡ or_else (named x es) (if same_name x y then Some v else None)
kept_name {V} es y v h x = by (same_name x y) refl
  where
    by : (b : Bool) → same_name x y ≡ b → named x es ≡ or_else (named x es) (if b then Some v else None)
    by true e = else_some (named x es) (Some v) (ap (λ z. is_some (named z es)) (same_is x y e) ∙ h)
    by false e = else_none (named x es)

pub new_name : {V : Type 0} (es fs : List (List ℕ × V)) (y : List ℕ) (v : V) → fs ≡ es ++ (y, v) ∷ [] → (x : List ℕ) → named x fs ≡ or_else (named x es) (if same_name x y then Some v else None)
new_name es fs y v h x = ap (named x) h ∙ named-append x es ((y, v) ∷ [])

-- one more row, as contracts see it
mapped_else : {V W : Type 0} (f : V → W) (m o : Option V) → option_map f (or_else m o) ≡ or_else (option_map f m) (option_map f o)
mapped_else f (Some v) o = refl
mapped_else f None o = refl

mapped_if : {V W : Type 0} (f : V → W) (b : Bool) (v : V) → option_map f (if b then Some v else None) ≡ (if b then Some (f v) else None)
mapped_if f true v = refl
mapped_if f false v = refl

pub row_added : (old new : Names CodeRow) (y : List ℕ) (r : CodeRow) (told : Row) → ((x : List ℕ) → named x (entries_of new) ≡ or_else (named x (entries_of old)) (if same_name x y then Some r else None)) → row r ≡ told →
    (x : List ℕ) → named x (rows_of new) ≡ or_else (named x (rows_of old)) (if same_name x y then Some told else None)
row_added old new y r told h e x =
    named_row x new ∙ ap (option_map row) (h x) ∙ mapped_else row (named x (entries_of old)) (if same_name x y then Some r else None) ∙
    ap (λ o. or_else o (option_map row (if same_name x y then Some r else None))) (sym (named_row x old)) ∙
    ap (or_else (named x (rows_of old))) (mapped_if row (same_name x y) r ∙ ap (λ t. if same_name x y then Some t else None) e)

-- what the first of some rows that has the name tells
module _ {Op V : Type 0} (name_of : Op → List ℕ) (told : Op → V) where
  abbrev pub found : List ℕ → List Op → Option V
  found x ops = option_map told (find (λ op. same_name (name_of op) x) ops)

  first_told : (b : Bool) (op : Op) (rest : Option Op) → option_map told (if b then Some op else rest) ≡ or_else (if b then Some (told op) else None) (option_map told rest)
  first_told true op rest = refl
  first_told false op rest = refl

  found_first : (x : List ℕ) (op : Op) (rest : List Op) → found x (op ∷ rest) ≡ or_else (if same_name x (name_of op) then Some (told op) else None) (found x rest)
  found_first x op rest =
      first_told (same_name (name_of op) x) op (find (λ o. same_name (name_of o) x) rest) ∙
      ap (λ b. or_else (if b then Some (told op) else None) (found x rest)) (same_turned (name_of op) x)

  -- the rows so far, and then those behind them
  pub one_more : (w old new : List ℕ → Option V) (all rest : List Op) (op : Op) → ((x : List ℕ) → w x ≡ or_else (old x) (found x all)) → all ≡ op ∷ rest →
      ((x : List ℕ) → new x ≡ or_else (old x) (if same_name x (name_of op) then Some (told op) else None)) → (x : List ℕ) → w x ≡ or_else (new x) (found x rest)
  one_more w old new all rest op goes here grown x =
      let added : Option V = if same_name x (name_of op) then Some (told op) else None in
      goes x ∙ ap (λ l. or_else (old x) (found x l)) here ∙ ap (or_else (old x)) (found_first x op rest) ∙ sym (or_else-assoc (old x) added (found x rest)) ∙
      ap (λ o. or_else o (found x rest)) (sym (grown x))

  -- before the first row, and behind the last
  pub none_yet : (w old : List ℕ → Option V) (all : List Op) → ((x : List ℕ) → w x ≡ found x all) → ((x : List ℕ) → old x ≡ None) → (x : List ℕ) → w x ≡ or_else (old x) (found x all)
  none_yet w old all goes none x = goes x ∙ ap (λ o. or_else o (found x all)) (sym (none x))

  pub all_found : (w new : List ℕ → Option V) (rest : List Op) → ((x : List ℕ) → w x ≡ or_else (new x) (found x rest)) → rest ≡ [] → (x : List ℕ) → new x ≡ w x
  all_found w new rest goes e x = else_none (new x) ∙ ap (λ l. or_else (new x) (found x l)) (sym e) ∙ sym (goes x)

-- what the two tables find
pub intel_found : (x : List ℕ) → row_of_table X86 x ≡ found intel.name_of (λ op. row_told (intel.signature_of op) (intel.range_of op)) x intel.rows
unfolding intel.find_of first_named
intel_found x = refl

pub neon_found : (x : List ℕ) → row_of_table Neon x ≡ found neon.name_of (λ op. row_told (neon.signature_of op) (neon.range_of op)) x neon.rows
unfolding neon.find_of first_named
neon_found x = refl

kept_some : {A B : Type 0} (g : A → B) (m : Option A) → is_some (option_map g m) ≡ is_some m
kept_some g (Some x) = refl
kept_some g None = refl

-- a name alone, of a row of Neon's table
abbrev pub named_only : NeonOp → Unit {0}
named_only op = tt

pub neon_name : (x : List ℕ) → is_some (found neon.name_of named_only x neon.rows) ≡ is_neon_row x
unfolding neon.find_of first_named
neon_name x = kept_some named_only (find (λ op. same_name (neon.name_of op) x) neon.rows)

-- no name among none
pub no_row : (n : Names CodeRow) → entries_of n ≡ [] → (x : List ℕ) → named x (rows_of n) ≡ None
no_row n e x = named_row x n ∙ ap (λ es. option_map row (named x es)) e

pub no_name : {V : Type 0} (es : List (List ℕ × V)) → es ≡ [] → (x : List ℕ) → named x es ≡ None
no_name es e x = ap (named x) e

-- what the first item of a unit sees
pub begun : (dialect : Dialect) (rs rows : List ℕ → Option Row) (ns neon : List ℕ → Bool) (outer : List Scope) (innermost : Scope) (fs functions : List (List ℕ × Callee)) →
    ((x : List ℕ) → rs x ≡ rows x) → ((x : List ℕ) → ns x ≡ neon x) → outer ≡ [] → innermost ≡ [] → fs ≡ functions →
    let made : Env = record { dialect = dialect; rows = rs; neon = ns; outer = outer; innermost = innermost; functions = fs; here = 0; calls_none = false } in
    let wanted : Env = record { dialect = dialect; rows = rows; neon = neon; outer = []; innermost = []; functions = functions; here = 0; calls_none = false } in
    made ≡ wanted
begun dialect rs rows ns neon outer innermost fs functions r n o s f =
    λ i. record { dialect = dialect; rows = fun_ext r i; neon = fun_ext n i; outer = o i; innermost = s i; functions = f i; here = 0; calls_none = false }
