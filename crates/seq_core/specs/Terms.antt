-- Sequences as plain data, which contracts speak of.
use Rattle.std.specs.Prelude.{ℕ, List, Option}
use Rattle.lane_core.specs.declared.number.IntType.{IntType}
use Rattle.lane_core.specs.declared.number.BinOp.{BinOp}
use Rattle.lane_core.specs.declared.number.Num.{Num}
use Rattle.c_tree.specs.declared.types.CType.{CType}
use Rattle.neon_table.specs.declared.NeonOp.{NeonOp}

mutual
  pub data Term : Type 0 where
    Param : ℕ → Term
    Step : ℕ → Term
    Const : List ℕ → Term
    Int : Num → Term
    Call : NeonOp → Terms → ℕ → Term
    PairOf : Term → Term → Term
    Half : Term → ℕ → Term
    Scalar : BinOp → Term → Term → Term
    Convert : IntType → Term → Term
    Choice : Term → Term → Term → Term
    Shifted : Term → Term → Term
    ByteAt : Term → Term
    SetByte : Term → Term → Term

  pub data Terms : Type 0 where
    NoTerms : Terms
    More : Term → Terms → Terms

pub record Sequence : Type 0 where
  pub params : List CType
  pub steps : List Term
  pub result : Option Term
