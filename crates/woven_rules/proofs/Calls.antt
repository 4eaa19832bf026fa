-- Calls of functions without parameters and without a result, by their bare names.
use Rattle.std.proofs.Common.{◌≡◌, refl, ap, ◌∙◌, ℕ, Bool, true, false, not, List, [], ◌∷◌, ◌++◌, Option, Some, None, is_some, map}
use Rattle.agxx_base.specs.declared.ids.ClassId.{ClassId}
use Rattle.agxx_base.specs.declared.ids.NameId.{NameId}
use Rattle.agxx_base.specs.declared.place.Place.{Place}
use Rattle.cxx_tree.specs.declared.program.Access.TheVariants as access
use Rattle.cxx_tree.specs.declared.program.TypeName.TheVariants as type_name
use Rattle.cxx_tree.specs.declared.expr.Callee.TheVariants as callee_of
use Rattle.cxx_tree.specs.Limits.{Every}
use Rattle.cxx_tree.specs.StmtTree.{StmtTree, listed_stmts}
use Rattle.cxx_names.specs.declared.declarations.Signature.{Signature}
use Rattle.cxx_names.specs.declared.declarations.Declared.{Declared}
use Rattle.cxx_names.specs.LookUp as look
use Rattle.cxx_types.specs.Access.{own_is_accessible}
use Rattle.cxx_types.specs.Calls.{counts}
use Rattle.cxx_rules.specs.Sites.{Site}
use Rattle.cxx_rules.specs.Forms as form
use Rattle.cxx_rules.specs.StmtForms as f
use Rattle.cxx_rules.specs.Unless.{unless}
use Rattle.cxx_rules.specs.TypesDisagree as n3
use Rattle.cxx_rules.specs.WrongNumberOfArguments as n4
use Rattle.cxx_rules.specs.NotAccessible as n6
use Rattle.cxx_rules.specs.NotAllowedHere as n8
use Rattle.cxx_make.specs.Made as made
use Rattle.woven_rules.proofs.Right.{Right, Rights}

-- a name by itself means, in functions of a class, a public function of some class without parameters and a result
pub record IsProcedure (d : Declared) (viewer : Option ClassId) (name : NameId) : Type 0 where
  pub owner : ClassId
  pub function : Signature
  pub is : look.function_by (look.own_function d viewer name.0) (look.free_function d name.0) ≡ Some
      (Some owner, function)
  pub no_result : function.result ≡ type_name.Void
  pub no_params : function.params ≡ []
  pub is_public : function.access ≡ access.Public
  pub no_main : function.is_main ≡ false

open-to : (d : Declared) (viewer : Option ClassId) (owner : ClassId)
    → own_is_accessible d access.Public viewer owner ≡ true
open-to d None owner = refl
open-to d (Some c) owner = refl

module _ (w : Site) (place : Place) (name : NameId) (known : IsProcedure w.declared w.context.class name) where
  pub call-right : Right (form.call w (made.node place) (callee_of.Bare (made.ref place name)) 0 false)
  call-right = (
    ap (λ o. unless (is_some o) place) known.is,
    refl,
    ap (n3.function_no_result (made.node place) false) known.is,
    ap (n4.function_wrong_number place 0) known.is ∙ ap (λ ps. unless (counts 0 ps) place) known.no_params,
    refl,
    ap (n6.function_not_accessible w place) known.is
        ∙ (ap (λ x. unless (own_is_accessible w.declared x w.context.class known.owner) place) known.is_public
        ∙ ap (λ b. unless b place) (open-to w.declared w.context.class known.owner)),
    refl,
    ap (n8.main_called place) known.is ∙ ap (λ b. unless (not b) place) known.no_main,
    refl,
  )

-- calls, and then other statements
module _ (w : Site) (outermost : Bool) (place : Place) (of : NameId → NameId) (others : List StmtTree) where
  abbrev At : ℕ → ℕ → Site
  At l r = record w { locals = l; returns = r }

  pub calls-right : (classes : List NameId)
      → Every (λ (class : NameId). IsProcedure w.declared w.context.class (of class)) classes
      → ((l r : ℕ) → Rights (f.forms_of_stmts (At l r) outermost (listed_stmts others)))
      → (l r : ℕ) → Rights (f.forms_of_stmts (At l r) outermost
      (listed_stmts (map (λ class. made.call place (of class)) classes ++ others)))
  calls-right [] known later l r = later l r
  calls-right (class ∷ classes) known later l r =
      (call-right (At l r) place (of class) known.0, calls-right classes known.1 later _ _)
