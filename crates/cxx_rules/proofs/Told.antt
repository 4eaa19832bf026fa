-- What is told of the forms of a part, rule by rule, and the state in which a walk through that part ends.
use Rattle.std.proofs.Common.{◌≡◌, refl, sym, subst, ℕ, suc, Bool, true, false, List, [], ◌∷◌, ◌++◌, length, Option, Some, None, arith, length-append}
use Rattle.agxx_base.specs.declared.fault.Refusal.{Refusal}
use Rattle.agxx_base.specs.declared.place.Place.{Place}
use Rattle.agxx_base.specs.declared.rule.Rule.{Rule}
use Rattle.agxx_base.specs.declared.rule.Rule.TheVariants as rule
use Rattle.cxx_types.specs.declared.entry.Entry.{Entry}
use Rattle.cxx_types.specs.declared.limits.Counts.{Counts}
use Rattle.cxx_types.specs.State.{State}
use Rattle.cxx_types.specs.Checking.{required}
use Rattle.cxx_rules.specs.Sites.{Site}
use Rattle.cxx_rules.specs.Forms.{Form}
use Rattle.cxx_rules.specs.Unless.{unless}
use Rattle.cxx_rules.specs.UnknownName.{unknown_name_at}
use Rattle.cxx_rules.specs.DeclaredTwice.{declared_twice_at}
use Rattle.cxx_rules.specs.TypesDisagree.{types_disagree_at}
use Rattle.cxx_rules.specs.WrongNumberOfArguments.{wrong_number_of_arguments_at}
use Rattle.cxx_rules.specs.BaseNotDeclaredBefore.{base_not_declared_before_at}
use Rattle.cxx_rules.specs.NotAccessible.{not_accessible_at}
use Rattle.cxx_rules.specs.AddressOfNoGlobalObject.{address_of_no_global_object_at}
use Rattle.cxx_rules.specs.NotAllowedHere.{not_allowed_here_at}
use Rattle.cxx_rules.specs.NoMain.{no_main_at}
use Rattle.cxx_rules.specs.TooMany.{too_many_at}

-- a violation behind others
abbrev pub told_by : Rule → Option Place → List Refusal → List Refusal
told_by rule None fs = fs
told_by rule (Some at) fs = fs ++ (record { rule = rule; place = at }) ∷ []

-- what all rules say of a form, in the order in which a walk finds it
abbrev pub told : Counts → Form → List Refusal → List Refusal
told m form fs =
    told_by rule.N10 (too_many_at m form)
    (told_by rule.N9 (no_main_at form)
    (told_by rule.N7 (address_of_no_global_object_at form)
    (told_by rule.N3 (types_disagree_at form)
    (told_by rule.N4 (wrong_number_of_arguments_at form)
    (told_by rule.N8 (not_allowed_here_at form)
    (told_by rule.N6 (not_accessible_at form)
    (told_by rule.N5 (base_not_declared_before_at form)
    (told_by rule.N2 (declared_twice_at form)
    (told_by rule.N1 (unknown_name_at form) fs)))))))))

abbrev pub all_told : Counts → List Form → List Refusal → List Refusal
all_told m [] fs = fs
all_told m (form ∷ forms) fs = all_told m forms (told m form fs)

pub told-append : (m : Counts) (a b : List Form) (fs : List Refusal) → all_told m (a ++ b) fs ≡ all_told m b (all_told m a fs)
told-append m [] b fs = refl
told-append m (form ∷ a) b fs = told-append m a b (told m form fs)

-- ---- states

-- the state of a walk that has come to a site
abbrev pub st : Counts → Site → List Refusal → List Entry → State
st m w fs es = record {
  names = w.names;
  declared = w.declared;
  most = m;
  found = fs;
  entries = es;
  scope = w.scope;
  locals = w.locals;
  returns = w.returns;
}

-- a walk ends at this site, with these violations, so many nodes and what is made of the state
pub record Gives {A : Type 0} (make : State → A) (m : Counts) (w : Site) (fs : List Refusal) (k : ℕ) (x : A) : Type 0 where
  pub entries : List Entry
  pub is : x ≡ make (st m w fs entries)
  pub longer : length entries ≡ k

-- a walk goes on with what another gave
pub after : {A B : Type 0} {make : State → A} {made : State → B} {m : Counts} {w v : Site} {fs gs : List Refusal} {k l : ℕ} {x : A}
    → (f : A → B) → Gives make m w fs k x
    → ((es : List Entry) → length es ≡ k → Gives made m v gs l (f (make (st m w fs es))))
    → Gives made m v gs l (f x)
after {made} {m} {v} {gs} {l} f g next = subst (λ y. Gives made m v gs l (f y)) (sym g.is) (next g.entries g.longer)

-- a rule is found to be violated, or not
pub after_rule : {B : Type 0} {made : State → B} {m : Counts} {v : Site} {gs : List Refusal} {l : ℕ} (w : Site) (fs : List Refusal) (es : List Entry)
    → (f : State → B) (r : Rule) (at : Place) (holds : Bool)
    → Gives made m v gs l (f (st m w (told_by r (unless holds at) fs) es))
    → Gives made m v gs l (f (required r at holds (st m w fs es)))
after_rule w fs es f r at true g = g
after_rule w fs es f r at false g = g

pub same : {A : Type 0} {make : State → A} {m : Counts} {w : Site} {fs gs : List Refusal} {k l : ℕ} {x : A}
    → fs ≡ gs → k ≡ l → Gives make m w fs k x → Gives make m w gs l x
same {make} {m} {w} {gs} {k} {x} e f g =
    subst (λ y. Gives make m w gs y x) f (subst (λ y. Gives make m w y k x) e g)

pub required-told : (r : Rule) (at : Place) (holds : Bool) (m : Counts) (w : Site) (fs : List Refusal) (es : List Entry)
    → required r at holds (st m w fs es) ≡ st m w (told_by r (unless holds at) fs) es
required-told r at true m w fs es = refl
required-told r at false m w fs es = refl

pub one-more : {k : ℕ} (es : List Entry) (e : Entry) → length es ≡ k → length (es ++ e ∷ []) ≡ suc k
one-more es e h = grind (arith, length-append)

-- the same site, told otherwise
pub moved : {A : Type 0} {make : State → A} {m : Counts} {w v : Site} {fs : List Refusal} {k : ℕ} {x : A}
    → w ≡ v → Gives make m w fs k x → Gives make m v fs k x
moved {make} {m} {fs} {k} {x} e g = subst (λ u. Gives make m u fs k x) e g
