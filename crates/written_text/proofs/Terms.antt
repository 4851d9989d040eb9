-- What is written for a term of a well-formed sequence is printed and read as it is.
use Rattle.std.proofs.Common.{◌≡◌, refl, ap, arith, ℕ, zero, suc, ◌≤◌, Bool, true, false, List, [], ◌∷◌, pos, slice_get, get_or, if◌then◌else◌, replicate}
use Rattle.std.specs.Prelude.{bytes_eq}
use Rattle.std.specs.Option.{unwrap_or}
use Rattle.lane_core.specs.declared.number.IntType.{IntType}
use Rattle.lane_core.specs.declared.number.IntType.TheVariants as int
use Rattle.lane_core.specs.declared.table.ParamKind.{ParamKind}
use Rattle.lane_core.specs.declared.table.ParamKind.TheVariants as kind
use Rattle.lane_core.specs.Register.{lane}
use Rattle.lane_core.specs.Table.{params_of}
use Rattle.scalar_core.specs.Numbers.{num_of}
use Rattle.c_text.specs.declared.tokens.Place.{Place}
use Rattle.c_tree.specs.declared.types.CType.{CType}
use Rattle.c_tree.specs.Tree as tree
use Rattle.c_tree.specs.Tree.{Tree, Trees, Node, NoTrees, More}
use Rattle.c_memory.specs.Meaning.{type_of}
use Rattle.neon_table.specs.declared.NeonOp.{NeonOp}
use Rattle.neon_table.specs.Rows.{form_of, signature_of}
use Rattle.round_trip.specs.Good.{GoodConstant, GoodType}
use Rattle.seq_core.specs.Terms as term
use Rattle.seq_core.specs.Terms.{Term, Terms}
use Rattle.seq_core.specs.Formed as formed
use Rattle.seq_core.specs.Formed.{IsFormed, AreFormed, IsCarrier, IsConverted, vector, byte, type_of_kind, to_bytes, operator_type}
use Rattle.seq_core.specs.Rows.{create, combine, broadcast}
use Rattle.seq_core.specs.Written.{pen, nothing, number, call, eight, zeros, constant, with_constant, written, all_written}
use Rattle.written_text.proofs.RowWords.{neon_row_named}
use Rattle.written_text.proofs.Fine.{Fine, AllFine, none_fine, more_fine, good_constant, size_constant, small_constant, immediate_small, named_good}

-- expressions that are fine and of these types
abbrev pub Stand : List CType → List Tree → Type 0
Stand [] [] = Unit {0}
Stand (t ∷ ts) (e ∷ es) = Fine e × (type_of e ≡ t) × Stand ts es
Stand _ _ = ⊥

pub one_fine : (place : Place) (ts : List CType) (es : List Tree) (n : ℕ) → Stand ts es → IsCarrier (unwrap_or (slice_get ts n) CType.Void) → Fine (get_or es n (nothing place))
one_fine place [] [] n h c = absurd c
one_fine place (t ∷ ts) (e ∷ es) zero h c = h.0
one_fine place (t ∷ ts) (e ∷ es) (suc n) h c = one_fine place ts es n h.2 c
one_fine place [] (e ∷ es) n h c = absurd h
one_fine place (t ∷ ts) [] n h c = absurd h

one_typed : (place : Place) (ts : List CType) (es : List Tree) (n : ℕ) → Stand ts es → type_of (get_or es n (nothing place)) ≡ unwrap_or (slice_get ts n) CType.Void
one_typed place [] [] n h = refl
one_typed place (t ∷ ts) (e ∷ es) zero h = h.1
one_typed place (t ∷ ts) (e ∷ es) (suc n) h = one_typed place ts es n h.2
one_typed place [] (e ∷ es) n h = absurd h
one_typed place (t ∷ ts) [] n h = absurd h

-- ---- constants and calls

number_fine : (place : Place) (t : IntType) (n : ℕ) → GoodConstant (num_of t (pos n)) → Fine (number place (num_of t (pos n)))
number_fine place t n h = record { good = h; plain = tt }

call_fine : (place : Place) (op : NeonOp) (all : Trees) → AllFine all → Fine (call place op all)
call_fine place op all h = record { good = (neon_row_named op, h.good); plain = h.plain }

constant_fine : (place : Place) (r : List ℕ) → Fine (constant place r)
constant_fine place r = at (bytes_eq r (replicate 16 0))
  where
    part : (n : ℕ) → Fine (eight place n)
    part n = call_fine place create (More (number place (num_of int.ULong (pos n))) NoTrees) (more_fine (number place (num_of int.ULong (pos n))) NoTrees (number_fine place int.ULong n (size_constant n)) none_fine)

    zero_number : Fine (number place (num_of int.Int (pos 0)))
    zero_number = number_fine place int.Int 0 (small_constant 0 (omega arith))

    zero_byte : Fine (Node place byte (tree.Cast byte (number place (num_of int.Int (pos 0))) false))
    zero_byte = record { good = zero_number.good; plain = zero_number.plain }

    at : (b : Bool) → Fine (if b then zeros place else call place combine (More (eight place (lane 8 r 0)) (More (eight place (lane 8 r 1)) NoTrees)))
    at true = call_fine place broadcast (More (Node place byte (tree.Cast byte (number place (num_of int.Int (pos 0))) false)) NoTrees) (more_fine (Node place byte (tree.Cast byte (number place (num_of int.Int (pos 0))) false)) NoTrees zero_byte none_fine)
    at false = call_fine place combine (More (eight place (lane 8 r 0)) (More (eight place (lane 8 r 1)) NoTrees))
        (more_fine (eight place (lane 8 r 0)) (More (eight place (lane 8 r 1)) NoTrees) (part (lane 8 r 0)) (more_fine (eight place (lane 8 r 1)) NoTrees (part (lane 8 r 1)) none_fine))

constant_typed : (place : Place) (r : List ℕ) → type_of (constant place r) ≡ vector
constant_typed place r = at (bytes_eq r (replicate 16 0))
  where
    at : (b : Bool) → type_of (if b then zeros place else call place combine (More (eight place (lane 8 r 0)) (More (eight place (lane 8 r 1)) NoTrees))) ≡ vector
    at true = refl
    at false = refl

operands_fine : (place : Place) (ks : List ParamKind) (all : Trees) (imm : ℕ) → imm ≤ 255 → AllFine all → AllFine (with_constant place ks all imm)
operands_fine place (kind.Immediate ∷ ks) all imm l h =
    more_fine (number place (num_of int.Int (pos imm))) (with_constant place ks all imm) (number_fine place int.Int imm (small_constant imm l)) (operands_fine place ks all imm l h)
operands_fine place [] all imm l h = h
operands_fine place (k ∷ ks) NoTrees imm l h = h
operands_fine place (k ∷ ks) (More a rest) imm l h = more_fine a (with_constant place ks rest imm) (record { good = h.good.0; plain = h.plain.0 }) (operands_fine place ks rest imm l (record { good = h.good.1; plain = h.plain.1 }))

-- ---- terms

cast_good : (t : IntType) (u : CType) → IsConverted t u → GoodType (CType.Int t)
cast_good t (CType.Int s) h = named_good t h
cast_good t u h = absurd h

module _ (place : Place) (params steps : List Tree) (ps ss : List CType) (p : Stand ps params) (s : Stand ss steps) where
  mutual
    pub typed : (t : Term) → type_of (written (pen place params steps) t) ≡ formed.type_of ps ss t
    typed (term.Param n) = one_typed place ps params n p
    typed (term.Step n) = one_typed place ss steps n s
    typed (term.Const r) = constant_typed place r
    typed (term.Int n) = refl
    typed (term.Call op all imm) = refl
    typed (term.PairOf a b) = refl
    typed (term.Half a k) = refl
    typed (term.Scalar o a b) = ap (operator_type o) (typed a)
    typed (term.Convert t a) = refl
    typed (term.Choice c a b) = typed a
    typed (term.Shifted a b) = ap to_bytes (typed a)
    typed (term.ByteAt a) = refl
    typed (term.SetByte a b) = refl

  mutual
    pub fine : (t : Term) → IsFormed ps ss t → Fine (written (pen place params steps) t)
    fine (term.Param n) h = one_fine place ps params n p h
    fine (term.Step n) h = one_fine place ss steps n s h
    fine (term.Const r) h = constant_fine place r
    fine (term.Int n) h = record { good = good_constant n h; plain = tt }
    fine (term.Call op all imm) h =
        call_fine place op (with_constant place (params_of (signature_of op)) (all_written (pen place params steps) all) imm)
        (operands_fine place (params_of (signature_of op)) (all_written (pen place params steps) all) imm (immediate_small (form_of op) imm h.1) (all_fine all h.2))
    fine (term.PairOf a b) h = let f = fine a h.2 in let g = fine b h.3 in record { good = (f.good, g.good); plain = (f.plain, g.plain) }
    fine (term.Half a k) h = let f = fine a h.2 in record { good = (f.good, h.1); plain = f.plain }
    fine (term.Scalar o a b) h = let f = fine a h.2 in let g = fine b h.3 in record { good = (f.good, g.good); plain = (f.plain, g.plain) }
    fine (term.Convert t a) h = let f = fine a h.1 in record { good = (cast_good t (formed.type_of ps ss a) h.0, f.good); plain = f.plain }
    fine (term.Choice c a b) h = let e = fine c h.3 in let f = fine a h.4 in let g = fine b h.5 in record { good = (e.good, f.good, g.good); plain = (e.plain, (f.plain, g.plain)) }
    fine (term.Shifted a b) h = let f = fine a h.2 in let g = fine b h.3 in record { good = ((tt, f.good), g.good); plain = (f.plain, g.plain) }
    fine (term.ByteAt a) h = let f = fine a h.1 in record { good = f.good; plain = f.plain }
    fine (term.SetByte a b) h = let f = fine a h.2 in let g = fine b h.3 in record { good = (tt, f.good, g.good); plain = (f.plain, g.plain) }

    pub all_fine : (all : Terms) → AreFormed ps ss all → AllFine (all_written (pen place params steps) all)
    all_fine term.NoTerms h = none_fine
    all_fine (term.More t rest) h = more_fine (written (pen place params steps) t) (all_written (pen place params steps) rest) (fine t h.0) (all_fine rest h.1)
