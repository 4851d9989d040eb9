-- What a row does by its heading it does by its signature.
use Rattle.std.proofs.Common.{◌≡◌, ◌∙◌, Bool, true, false, if◌then◌else◌, nat_eq, List, [], ◌∷◌, map, refl}
use Rattle.lane_core.specs.declared.table.ParamKind.{ParamKind}
use Rattle.lane_core.specs.declared.table.ParamKind.TheVariants as kind
use Rattle.lane_core.specs.declared.table.Sig.{Sig}
use Rattle.lane_core.specs.Table as table
use Rattle.lane_core.specs.Table.{params_of}
use Rattle.c_tree.specs.declared.types.CType.TheVariants.{M128, M256}
use Rattle.type_rules.specs.declared.passing.Parameter.{Parameter}
use Rattle.type_rules.specs.declared.passing.Parameter.TheVariants.{Object}
use Rattle.type_rules.specs.Passing.{parameter, row_heading}
use Rattle.order_rule.specs.Callees.{stores, reads, has_target}

-- a register is no pointer
register_stores : (b : Bool) (ps : List Parameter) → stores (Object (if b then M256 else M128) ∷ ps) ≡ stores ps
register_stores true ps = refl
register_stores false ps = refl

register_reads : (b : Bool) (ps : List Parameter) → reads (Object (if b then M256 else M128) ∷ ps) ≡ reads ps
register_reads true ps = refl
register_reads false ps = refl

kinds_store : (ks : List ParamKind) → stores (map parameter ks) ≡ has_target ks
kinds_store [] = refl
kinds_store (kind.Reg n ∷ ks) = register_stores (nat_eq n 32) (map parameter ks) ∙ kinds_store ks
kinds_store (kind.Lane l w ∷ ks) = kinds_store ks
kinds_store (kind.Pair ∷ ks) = kinds_store ks
kinds_store (kind.Scalar t ∷ ks) = kinds_store ks
kinds_store (kind.Immediate ∷ ks) = kinds_store ks
kinds_store (kind.PointerTo e true ∷ ks) = kinds_store ks
kinds_store (kind.PointerTo e false ∷ ks) = refl
kinds_store (kind.Nothing ∷ ks) = kinds_store ks

kinds_read : (ks : List ParamKind) → reads (map parameter ks) ≡ table.reads ks
kinds_read [] = refl
kinds_read (kind.Reg n ∷ ks) = register_reads (nat_eq n 32) (map parameter ks) ∙ kinds_read ks
kinds_read (kind.Lane l w ∷ ks) = kinds_read ks
kinds_read (kind.Pair ∷ ks) = kinds_read ks
kinds_read (kind.Scalar t ∷ ks) = kinds_read ks
kinds_read (kind.Immediate ∷ ks) = kinds_read ks
kinds_read (kind.PointerTo e true ∷ ks) = refl
kinds_read (kind.PointerTo e false ∷ ks) = kinds_read ks
kinds_read (kind.Nothing ∷ ks) = kinds_read ks

pub row_stores : (sig : Sig) → stores (row_heading sig).params ≡ has_target (params_of sig)
row_stores sig = kinds_store (params_of sig)

pub row_reads : (sig : Sig) → reads (row_heading sig).params ≡ table.reads (params_of sig)
row_reads sig = kinds_read (params_of sig)
