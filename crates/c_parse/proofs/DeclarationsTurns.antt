-- A turn of a loop that reads one more and adds it at the end.
use Rattle.std.proofs.Common.{◌≡◌, List, [], ◌∷◌, ◌++◌, map, Option, Some, sym, ◌∙◌, ap}
use Rattle.std.proofs.lemmas.List.{map-append}
use Rattle.c_text.specs.declared.tokens.Dialect.{Dialect}
use Rattle.c_text.specs.declared.tokens.Token.{Token}
use Rattle.c_tree.specs.declared.expressions.Expr.{Expr}
use Rattle.c_tree.specs.declared.statements.Declared.{Declared}
use Rattle.c_tree.specs.Tree.{Tree, Object}
use Rattle.c_tree.specs.View.{view, view_declared}
use Rattle.c_parse.specs.declared.symbols.Sign.TheVariants.{Comma}
use Rattle.c_parse.specs.Reading.{past, Assignment, read}
use Rattle.c_parse.specs.Objects.{Specification}
use Rattle.c_parse.specs.DeclarationReading.{past_member, members_front, initialised_front, more_objects, parameter_front, more_parameters}
use Rattle.c_parse.proofs.DeclarationsShorter.{members_eq, objects_eq, parameters_eq}

grown_map : {A B : Type 0} (f : A → B) (es es' : List A) (e : A) → es' ≡ es ++ e ∷ [] → map f es ++ (f e ∷ []) ≡ map f es'
grown_map f es es' e grown = sym (map-append f es (e ∷ [])) ∙ ap (map f) (sym grown)

pub member_turn : (d : Dialect) (ts ws us : List Token) (es es' : List Expr) (e : Expr) (whole : Option (List Tree × List Token)) → whole ≡ members_front d (map view es) ts → past_member d ts ≡ Some ws →
    read d Assignment ws ≡ Some (view e, us) → es' ≡ es ++ e ∷ [] → whole ≡ members_front d (map view es') us
member_turn d ts ws us es es' e whole so_far more first grown =
    so_far ∙ members_eq d (map view es) ts ∙ rw (more, first) (ap (λ l. members_front d l us) (grown_map view es es' e grown))

pub object_turn : (d : Dialect) (s : Specification) (ts ws us : List Token) (es es' : List Declared) (e : Declared) (whole : Option (List Object × List Token)) →
    whole ≡ more_objects d s (map view_declared es) ts → past d Comma ts ≡ Some ws → initialised_front d s ws ≡ Some (view_declared e, us) → es' ≡ es ++ e ∷ [] → whole ≡ more_objects d s (map view_declared es') us
object_turn d s ts ws us es es' e whole so_far more first grown =
    so_far ∙ objects_eq d s (map view_declared es) ts ∙ rw (more, first) (ap (λ l. more_objects d s l us) (grown_map view_declared es es' e grown))

pub parameter_turn : (d : Dialect) (ts ws us : List Token) (es es' : List Declared) (e : Declared) (whole : Option (List Object × List Token)) →
    whole ≡ more_parameters d (map view_declared es) ts → past d Comma ts ≡ Some ws → parameter_front d ws ≡ Some (view_declared e, us) → es' ≡ es ++ e ∷ [] → whole ≡ more_parameters d (map view_declared es') us
parameter_turn d ts ws us es es' e whole so_far more first grown =
    so_far ∙ parameters_eq d (map view_declared es) ts ∙ rw (more, first) (ap (λ l. more_parameters d l us) (grown_map view_declared es es' e grown))
