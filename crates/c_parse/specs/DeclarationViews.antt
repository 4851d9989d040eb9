-- What contracts see of what the parser gathers of a declaration.
use Rattle.std.specs.Prelude.{option_map}
use Rattle.c_tree.specs.View.{view, views}
use Rattle.c_parse.specs.declared.specification.Specification.{Specification as CodeSpecification}
use Rattle.c_parse.specs.declared.declarators.Extent.{Extent as CodeExtent}
use Rattle.c_parse.specs.declared.declarators.Extent.TheVariants as extents
use Rattle.c_parse.specs.declared.declarators.Declarator.{Declarator as CodeDeclarator}
use Rattle.c_parse.specs.declared.initialisers.Initial.{Initial as CodeInitial}
use Rattle.c_parse.specs.Objects.{Specification, Extent, Single, Unbounded, Bounded, Declarator, Initial}

abbrev pub view_specification : CodeSpecification → Specification
view_specification s = record { words = s.words; is_static = s.is_static; is_inline = s.is_inline; align = option_map view s.align }

abbrev pub view_extent : CodeExtent → Extent
view_extent extents.Single = Single
view_extent extents.Unbounded = Unbounded
view_extent (extents.Bounded n) = Bounded (view n)

abbrev pub view_declarator : CodeDeclarator → Declarator
view_declarator x = record { star = x.star; place = x.place; name = x.name; extent = view_extent x.extent; align = option_map view x.align }

abbrev pub view_initial : CodeInitial → Initial
view_initial i = record { init = option_map view i.init; list = option_map (λ all. views all.items) i.list }
