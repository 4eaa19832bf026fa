-- The spelling of aspects and pointcuts: the list of tokens that the line of each gives.
use Rattle.std.specs.Prelude.{ℕ, Bool, true, false, List, [], ◌∷◌, ◌++◌, Option, Some, None, map}
use Rattle.std.specs.List.{flat_map}
use Rattle.agxx_base.specs.declared.kind.NumKind.TheVariants as kind
use Rattle.agxx_base.specs.declared.vocabulary.Keyword.TheVariants as k
use Rattle.agxx_base.specs.declared.vocabulary.Sign.{Sign}
use Rattle.agxx_base.specs.declared.vocabulary.Sign.TheVariants as sg
use Rattle.agxx_base.specs.declared.vocabulary.SpecialName.{SpecialName}
use Rattle.agxx_base.specs.declared.vocabulary.SpecialName.TheVariants as sn
use Rattle.cxx_tree.specs.declared.aspect.PointcutOp.{PointcutOp}
use Rattle.cxx_tree.specs.declared.aspect.PointcutOp.TheVariants as op
use Rattle.cxx_tree.specs.declared.aspect.PointcutFunction.{PointcutFunction}
use Rattle.cxx_tree.specs.declared.aspect.PointcutFunction.TheVariants as fn
use Rattle.cxx_tree.specs.declared.aspect.ArgsEntry.{ArgsEntry}
use Rattle.cxx_tree.specs.declared.aspect.ArgsEntry.TheVariants as entry
use Rattle.cxx_tree.specs.declared.aspect.Moment.{Moment}
use Rattle.cxx_tree.specs.declared.aspect.Moment.TheVariants as moment_of
use Rattle.cxx_tree.specs.Words.{Word, name, number, keyword, sign, separated, in_parentheses, in_braces, ended, optional}
use Rattle.cxx_tree.specs.Spelling.{spell_name, spell_quoted, spell_class_word, spell_label, spell_public_base, spell_directive, spell_member, spell_function, spell_params, spell_block}
use Rattle.cxx_tree.specs.AspectTree as a

abbrev pub pointcut_sign : PointcutOp → Sign
pointcut_sign op.Or = sg.OrOr
pointcut_sign op.And = sg.AndAnd

abbrev pub function_word : PointcutFunction → SpecialName
function_word fn.Call = sn.Call
function_word fn.Execution = sn.Execution
function_word fn.Construction = sn.Construction
function_word fn.Destruction = sn.Destruction
function_word fn.Within = sn.Within
function_word fn.That = sn.That
function_word fn.Target = sn.Target
function_word fn.Derived = sn.Derived

abbrev pub moment_word : Moment → SpecialName
moment_word moment_of.Before = sn.Before
moment_word moment_of.After = sn.After
moment_word moment_of.Around = sn.Around

abbrev pub spell_entry : ArgsEntry → List Word
spell_entry (entry.Pattern pattern) = spell_quoted pattern
spell_entry (entry.Bound n) = spell_name n

abbrev pub spell_virtual : Bool → List Word
spell_virtual true = keyword k.Virtual ∷ []
spell_virtual false = []

module _ (special : SpecialName → ℕ) where
  abbrev pub spell_pointcut : a.PointcutTree → List Word
  spell_pointcut (a.joined o left right) = spell_pointcut left ++ sign (pointcut_sign o.item) ∷ spell_pointcut right
  spell_pointcut (a.negated at operand) = sign sg.Not ∷ spell_pointcut operand
  spell_pointcut (a.grouped at inner) = in_parentheses (spell_pointcut inner)
  spell_pointcut (a.matching pattern) = spell_quoted pattern
  spell_pointcut (a.named n) = spell_name n ++ in_parentheses []
  spell_pointcut (a.applied f operand) = name (special (function_word f.item)) ∷ in_parentheses (spell_pointcut operand)
  spell_pointcut (a.args at entries) = name (special sn.Args) ∷ in_parentheses (separated (map spell_entry entries))

  -- what stands behind the `=` of a named pointcut
  abbrev pub spell_definition : Option a.PointcutTree → List Word
  spell_definition None = number 0 kind.I32 ∷ []
  spell_definition (Some pointcut) = spell_pointcut pointcut

  abbrev pub spell_pointcut_decl : a.PointcutDeclTree → List Word
  spell_pointcut_decl d =
      ended (keyword k.Pointcut ∷ (spell_virtual d.is_virtual ++ (spell_name d.name ++ (in_parentheses [] ++ sign sg.Assign ∷ spell_definition d.definition))))

  -- the beginning of an advice, an order line and a slice
  abbrev pub spell_advice_of : a.PointcutTree → List Word
  spell_advice_of pointcut = keyword k.Advice ∷ (spell_pointcut pointcut ++ sign sg.Colon ∷ [])

  abbrev pub spell_advice : a.AdviceTree → List Word
  spell_advice v =
      spell_advice_of v.pointcut ++ name (special (moment_word v.moment)) ∷ (spell_params special v.params ++ spell_block special v.body)

  abbrev pub spell_order : a.OrderTree → List Word
  spell_order o = ended (spell_advice_of o.pointcut ++ name (special sn.Order) ∷ in_parentheses (separated (map spell_quoted o.aspects)))

  abbrev pub spell_slice_item : a.SliceItemTree → List Word
  spell_slice_item (a.slice_label at access) = spell_label access
  spell_slice_item (a.slice_member m) = spell_member special m
  spell_slice_item (a.slice_function f) = spell_function special f

  abbrev pub spell_slice : a.SliceTree → List Word
  spell_slice s =
      ended (spell_advice_of s.pointcut ++ keyword k.Slice ∷ (spell_class_word s.word ++ in_braces (flat_map spell_slice_item s.items)))

  abbrev pub spell_aspect_item : a.AspectItemTree → List Word
  spell_aspect_item (a.label at access) = spell_label access
  spell_aspect_item (a.member m) = spell_member special m
  spell_aspect_item (a.function f) = spell_function special f
  spell_aspect_item (a.pointcut d) = spell_pointcut_decl d
  spell_aspect_item (a.advice v) = spell_advice v
  spell_aspect_item (a.order o) = spell_order o
  spell_aspect_item (a.slice s) = spell_slice s

  abbrev pub spell_aspect : a.AspectTree → List Word
  spell_aspect t =
      ended (keyword k.Aspect ∷ (spell_name t.name ++ (optional spell_public_base t.base ++ in_braces (flat_map spell_aspect_item t.items))))

  abbrev pub spell_aspects : a.AspectsTree → List Word
  spell_aspects t = flat_map spell_directive t.directives ++ flat_map spell_aspect t.aspects
