use Rattle.std.proofs.Common.{◌≡◌, codes, ap, arith, rules, sym, unwrap_or, bytes_eq}
use Rattle.std.specs.Map.{lookup}
use Rattle.std.proofs.lemmas.Slice.Eq.{text_from_reads}
use Rattle.c_preproc.specs.Role.{word_roles}
use Rattle.c_preproc.specs.declared.roles.Role.TheVariants.{Nothing}
use Rattle.c_preproc.proofs.roles.word_role.Goals as goal

pub returns-in-sizeof : goal.returns-in-sizeof
returns-in-sizeof c =
    let text : c.args.text.now ≡ codes "sizeof" = text_from_reads c.args.text.now (codes "sizeof") (omega arith) (search rules) in
    sym (ap (λ t. unwrap_or (lookup (bytes_eq t) word_roles) Nothing) text)
