-- Which trees of aspect files are trees of their grammar, within limits.
use Rattle.std.specs.Prelude.{ℕ, ◌≤◌, ◌≢◌, ◌-◌, Bool, length, Option, Some, None, IsTrue}
use Rattle.agxx_base.specs.declared.vocabulary.SpecialName.{SpecialName}
use Rattle.agxx_base.specs.declared.vocabulary.SpecialName.TheVariants as sn
use Rattle.cxx_tree.specs.declared.aspect.PointcutOp.{PointcutOp}
use Rattle.cxx_tree.specs.declared.aspect.PointcutOp.TheVariants as op
use Rattle.cxx_tree.specs.Limits as l
use Rattle.cxx_tree.specs.Limits.{Limits, Opens, Every}
use Rattle.cxx_tree.specs.Fits.{IsMemberType, FitsFunction, FitsParams, FitsBlock}
use Rattle.cxx_tree.specs.AspectTree as a

-- `!` stands at 0
abbrev pub pointcut_level_of : PointcutOp → ℕ
pointcut_level_of op.And = 1
pointcut_level_of op.Or = 2

abbrev pub pointcut_level : ℕ
pointcut_level = 2

module _ (special : SpecialName → ℕ) where
  -- a pointcut of operators up to this level; `args` before a parenthesis is never the name of a pointcut
  abbrev pub FitsPointcut : ℕ → ℕ → a.PointcutTree → Type 0
  FitsPointcut depth level (a.joined o left right) =
      (pointcut_level_of o.item ≤ level) × FitsPointcut depth (pointcut_level_of o.item) left × FitsPointcut depth (pointcut_level_of o.item - 1) right
  FitsPointcut depth level (a.negated at operand) = FitsPointcut depth 0 operand
  FitsPointcut depth level (a.grouped at inner) = Opens depth (λ below. FitsPointcut below pointcut_level inner)
  FitsPointcut depth level (a.matching pattern) = Unit {0}
  FitsPointcut depth level (a.named n) = (n.item.0 ≢ special sn.Args) × Opens depth (λ below. Unit {0})
  FitsPointcut depth level (a.applied f operand) = Opens depth (λ below. FitsPointcut below pointcut_level operand)
  FitsPointcut depth level (a.args at entries) = Opens depth (λ below. Unit {0})

  -- a pointcut without definition is virtual
  abbrev pub FitsDefinition : ℕ → Bool → Option a.PointcutTree → Type 0
  FitsDefinition depth is_virtual None = IsTrue is_virtual
  FitsDefinition depth is_virtual (Some pointcut) = FitsPointcut depth pointcut_level pointcut

  abbrev pub FitsPointcutDecl : ℕ → a.PointcutDeclTree → Type 0
  FitsPointcutDecl depth d = Opens depth (λ below. Unit {0}) × FitsDefinition depth d.is_virtual d.definition

  abbrev pub FitsOrder : ℕ → a.OrderTree → Type 0
  FitsOrder depth o = FitsPointcut depth pointcut_level o.pointcut × Opens depth (λ below. Unit {0}) × (2 ≤ length o.aspects)

  module _ (most : ℕ) where
    abbrev pub FitsAdvice : ℕ → a.AdviceTree → Type 0
    FitsAdvice depth v =
        FitsPointcut depth pointcut_level v.pointcut × FitsParams depth v.params × FitsBlock l.aspects most depth v.body

    abbrev pub FitsSliceItem : ℕ → a.SliceItemTree → Type 0
    FitsSliceItem depth (a.slice_label at access) = Unit {0}
    FitsSliceItem depth (a.slice_member m) = IsMemberType l.aspects m.type_name.item
    FitsSliceItem depth (a.slice_function f) = FitsFunction l.aspects most depth f

    abbrev pub FitsSlice : ℕ → a.SliceTree → Type 0
    FitsSlice depth s = FitsPointcut depth pointcut_level s.pointcut × Opens depth (λ below. Every (FitsSliceItem below) s.items)

    abbrev pub FitsAspectItem : ℕ → a.AspectItemTree → Type 0
    FitsAspectItem depth (a.label at access) = Unit {0}
    FitsAspectItem depth (a.member m) = IsMemberType l.aspects m.type_name.item
    FitsAspectItem depth (a.function f) = FitsFunction l.aspects most depth f
    FitsAspectItem depth (a.pointcut d) = FitsPointcutDecl depth d
    FitsAspectItem depth (a.advice v) = FitsAdvice depth v
    FitsAspectItem depth (a.order o) = FitsOrder depth o
    FitsAspectItem depth (a.slice s) = FitsSlice depth s

    abbrev pub FitsAspect : ℕ → a.AspectTree → Type 0
    FitsAspect depth t = Opens depth (λ below. Every (FitsAspectItem below) t.items)

abbrev pub FitsAspects : (SpecialName → ℕ) → Limits → a.AspectsTree → Type 0
FitsAspects special limits t = Every (FitsAspect special limits.operators limits.nesting) t.aspects

-- aspects of any size
abbrev pub AreAspects : (SpecialName → ℕ) → a.AspectsTree → Type 0
AreAspects special t = (limits : Limits) × FitsAspects special limits t
