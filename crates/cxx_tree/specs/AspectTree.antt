-- Aspects and pointcuts as plain data, on which definitions recurse.
use Rattle.std.specs.Prelude.{Bool, List, ◌++◌, map, Option, option_map}
use Rattle.agxx_base.specs.declared.ids.NameId.{NameId}
use Rattle.agxx_base.specs.declared.place.Place.{Place}
use Rattle.cxx_tree.specs.declared.node.Placed.{Placed}
use Rattle.cxx_tree.specs.declared.node.Quoted.{Quoted}
use Rattle.cxx_tree.specs.declared.program.ClassWord.{ClassWord}
use Rattle.cxx_tree.specs.declared.program.Access.{Access}
use Rattle.cxx_tree.specs.declared.program.Directive.{Directive}
use Rattle.cxx_tree.specs.declared.program.Member.{Member}
use Rattle.cxx_tree.specs.declared.program.Param.{Param}
use Rattle.cxx_tree.specs.declared.aspect.PointcutOp.{PointcutOp}
use Rattle.cxx_tree.specs.declared.aspect.PointcutFunction.{PointcutFunction}
use Rattle.cxx_tree.specs.declared.aspect.ArgsEntry.{ArgsEntry}
use Rattle.cxx_tree.specs.declared.aspect.Pointcut.{Pointcut}
use Rattle.cxx_tree.specs.declared.aspect.Pointcut.TheOpen.{Pointcut-F}
use Rattle.cxx_tree.specs.declared.aspect.Pointcut.TheFolds.{fold-Pointcut}
use Rattle.cxx_tree.specs.declared.aspect.PointcutDecl.{PointcutDecl}
use Rattle.cxx_tree.specs.declared.aspect.Moment.{Moment}
use Rattle.cxx_tree.specs.declared.aspect.Advice.{Advice}
use Rattle.cxx_tree.specs.declared.aspect.Order.{Order}
use Rattle.cxx_tree.specs.declared.aspect.SliceItem.{SliceItem}
use Rattle.cxx_tree.specs.declared.aspect.SliceItem.TheVariants as slice_item_of
use Rattle.cxx_tree.specs.declared.aspect.Slice.{Slice}
use Rattle.cxx_tree.specs.declared.aspect.AspectItem.{AspectItem}
use Rattle.cxx_tree.specs.declared.aspect.AspectItem.TheVariants as aspect_item_of
use Rattle.cxx_tree.specs.declared.aspect.Aspect.{Aspect}
use Rattle.cxx_tree.specs.declared.aspect.Aspects.{Aspects}
use Rattle.cxx_tree.specs.StmtTree.{BlockTree, block_tree}
use Rattle.cxx_tree.specs.ProgramTree.{FunctionTree, function_tree}

pub data PointcutTree : Type 0 where
  joined : Placed PointcutOp → PointcutTree → PointcutTree → PointcutTree
  negated : Place → PointcutTree → PointcutTree
  grouped : Place → PointcutTree → PointcutTree
  matching : Quoted → PointcutTree
  named : Placed NameId → PointcutTree
  applied : Placed PointcutFunction → PointcutTree → PointcutTree
  args : Place → List ArgsEntry → PointcutTree

pub record PointcutDeclTree : Type 0 where
  pub at : Place
  pub is_virtual : Bool
  pub name : Placed NameId
  pub definition : Option PointcutTree

pub record AdviceTree : Type 0 where
  pub at : Place
  pub pointcut : PointcutTree
  pub moment : Moment
  pub params : List Param
  pub body : BlockTree

pub record OrderTree : Type 0 where
  pub at : Place
  pub pointcut : PointcutTree
  pub aspects : List Quoted

pub data SliceItemTree : Type 0 where
  slice_label : Place → Access → SliceItemTree
  slice_member : Member → SliceItemTree
  slice_function : FunctionTree → SliceItemTree

pub record SliceTree : Type 0 where
  pub at : Place
  pub pointcut : PointcutTree
  pub word : ClassWord
  pub items : List SliceItemTree

pub data AspectItemTree : Type 0 where
  label : Place → Access → AspectItemTree
  member : Member → AspectItemTree
  function : FunctionTree → AspectItemTree
  pointcut : PointcutDeclTree → AspectItemTree
  advice : AdviceTree → AspectItemTree
  order : OrderTree → AspectItemTree
  slice : SliceTree → AspectItemTree

pub record AspectTree : Type 0 where
  pub at : Place
  pub name : Placed NameId
  pub base : Option (Placed NameId)
  pub items : List AspectItemTree

pub record AspectsTree : Type 0 where
  pub directives : List Directive
  pub aspects : List AspectTree

abbrev pub pointcut_step : Pointcut-F PointcutTree → PointcutTree
pointcut_step (Pointcut-F.Binary op a b) = joined op a b
pointcut_step (Pointcut-F.Not at operand) = negated at operand
pointcut_step (Pointcut-F.Paren at inner) = grouped at inner
pointcut_step (Pointcut-F.Match pattern) = matching pattern
pointcut_step (Pointcut-F.Named name) = named name
pointcut_step (Pointcut-F.Apply f operand) = applied f operand
pointcut_step (Pointcut-F.Args at entries) = args at entries

abbrev pub pointcut_tree : Pointcut → PointcutTree
pointcut_tree = fold-Pointcut PointcutTree pointcut_step

abbrev pub pointcut_decl_tree : PointcutDecl → PointcutDeclTree
pointcut_decl_tree d = record { at = d.at; is_virtual = d.is_virtual; name = d.name; definition = option_map pointcut_tree d.definition }

abbrev pub advice_tree : Advice → AdviceTree
advice_tree a = record { at = a.at; pointcut = pointcut_tree a.pointcut; moment = a.moment; params = a.params; body = block_tree a.body }

abbrev pub order_tree : Order → OrderTree
order_tree o = record { at = o.at; pointcut = pointcut_tree o.pointcut; aspects = o.aspects }

abbrev pub slice_item_tree : SliceItem → SliceItemTree
slice_item_tree (slice_item_of.Label at access) = slice_label at access
slice_item_tree (slice_item_of.Member m) = slice_member m
slice_item_tree (slice_item_of.Function f) = slice_function (function_tree f)

abbrev pub slice_tree : Slice → SliceTree
slice_tree s = record { at = s.at; pointcut = pointcut_tree s.pointcut; word = s.word; items = map slice_item_tree s.items }

abbrev pub aspect_item_tree : AspectItem → AspectItemTree
aspect_item_tree (aspect_item_of.Label at access) = label at access
aspect_item_tree (aspect_item_of.Member m) = member m
aspect_item_tree (aspect_item_of.Function f) = function (function_tree f)
aspect_item_tree (aspect_item_of.Pointcut d) = pointcut (pointcut_decl_tree d)
aspect_item_tree (aspect_item_of.Advice a) = advice (advice_tree a)
aspect_item_tree (aspect_item_of.Order o) = order (order_tree o)
aspect_item_tree (aspect_item_of.Slice s) = slice (slice_tree s)

abbrev pub aspect_tree : Aspect → AspectTree
aspect_tree a = record { at = a.at; name = a.name; base = a.base; items = map aspect_item_tree a.items }

abbrev pub aspects_tree : Aspects → AspectsTree
aspects_tree a = record { directives = a.directives.items; aspects = map aspect_tree a.aspects.items }

-- the aspects of one file behind those of the files before it
abbrev pub followed_by : AspectsTree → AspectsTree → AspectsTree
followed_by before more = record { directives = before.directives ++ more.directives; aspects = before.aspects ++ more.aspects }
