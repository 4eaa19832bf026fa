-- Functions: the walk finds what the rules say of their forms.
use Rattle.std.proofs.Common.{◌≡◌, refl, sym, ℕ, suc, ◌+◌, true, not, nat_eq, List, [], ◌∷◌, length}
use Rattle.agxx_base.specs.declared.fault.Refusal.{Refusal}
use Rattle.agxx_base.specs.declared.rule.Rule.TheVariants as rule
use Rattle.cxx_tree.specs.declared.program.Param.{Param}
use Rattle.cxx_tree.specs.StmtTree as t
use Rattle.cxx_tree.specs.StmtTree.{BlockTree}
use Rattle.cxx_tree.specs.ProgramTree.{FunctionTree}
use Rattle.cxx_tree.specs.Nodes.{nodes_in_block}
use Rattle.cxx_names.specs.LookUp.{thing_of}
use Rattle.cxx_types.specs.declared.entry.Entry.{Entry}
use Rattle.cxx_types.specs.declared.limits.Counts.{Counts}
use Rattle.cxx_types.specs.Checking.{required}
use Rattle.cxx_types.specs.Counts.{most_params}
use Rattle.cxx_types.specs.Statements.{body}
use Rattle.cxx_types.specs.Locals.{param_declared}
use Rattle.cxx_types.specs.Classes.{params, param, begun, function}
use Rattle.cxx_rules.specs.Sites.{Site}
use Rattle.cxx_rules.specs.Forms as form
use Rattle.cxx_rules.specs.Forms.{Form}
use Rattle.cxx_rules.specs.StmtForms.{forms_of_body}
use Rattle.cxx_rules.specs.ProgramForms.{with_param, with_params, forms_of_params, forms_of_function}
use Rattle.cxx_rules.proofs.Told.{all_told, told-append, st, Gives, after, same, moved, required-told}
use Rattle.cxx_rules.proofs.WalkedLocals.{variable_type-gives, result_type-gives, param_declared-gives}
use Rattle.cxx_rules.proofs.WalkedStatements.{stmts-gives}
use Rattle.cxx_rules.proofs.SitesBehind.{placed, left-function}

-- outside of functions
abbrev pub bare : Site → Site
bare w = placed w [] 0 0

param-gives : (m : Counts) (w : Site) (fs : List Refusal) (es : List Entry) (k : ℕ) → length es ≡ k → (index : ℕ) (p : Param)
    → Gives (λ s. s) m (with_param w p)
    (all_told m (form.variable_type w p.type_name ∷ form.counted form.params index p.name.at ∷ form.local_name w p.name ∷ form.apart w p.name ∷ []) fs)
    k (param w.context index p (st m w fs es))
param-gives m w fs es k h index p =
    after (λ s. let x = required rule.N10 p.name.at (not (nat_eq index most_params)) s in param_declared w.context p.name (thing_of x.declared p.type_name.item) x) (variable_type-gives m w fs es k h p.type_name) (λ es1 h1.
    simp required-told (param_declared-gives m w _ es1 k h1 p.name (thing_of w.declared p.type_name.item)))

pub params-gives : (m : Counts) (ps : List Param) (w : Site) (fs : List Refusal) (es : List Entry) (k : ℕ) → length es ≡ k → (index : ℕ)
    → Gives (λ s. s) m (with_params w ps) (all_told m (forms_of_params w index ps) fs) k (params w.context index ps (st m w fs es))
params-gives m [] w fs es k h index = record { entries = es; is = refl; longer = h }
params-gives m (p ∷ ps) w fs es k h index =
    after (λ s. params w.context (suc index) ps s) (param-gives m w fs es k h index p) (λ es1 h1. params-gives m ps (with_param w p) _ es1 k h1 (suc index))

-- a body, and the end of its function
pub body-gives : (m : Counts) (w : Site) (fs : List Refusal) (es : List Entry) (k : ℕ) → length es ≡ k → (b : BlockTree)
    → Gives (λ s. s) m (bare w) (all_told m (forms_of_body w b) fs) (k + nodes_in_block b) (begun (body w.context b (st m w fs es)))
body-gives m w fs es k h (t.braces at ss) =
    after (λ s. begun s) (stmts-gives m w true ss fs es k h) (λ es1 h1. moved (left-function w ss) (record { entries = es1; is = refl; longer = h1 }))

pub function-gives : (m : Counts) (w : Site) (fs : List Refusal) (es : List Entry) (k : ℕ) → length es ≡ k → (f : FunctionTree)
    → Gives (λ s. s) m (bare w) (all_told m (forms_of_function w f) fs) (k + nodes_in_block f.body) (function w.context f (st m w fs es))
unfolding function
function-gives m w fs es k h f =
    same {k = k + nodes_in_block f.body} (sym (told-append m (forms_of_params w 0 f.params) _ _)) refl
    (after (λ s. begun (body w.context f.body (params w.context 0 f.params s))) (result_type-gives m w fs es k h f.result) (λ es1 h1.
    after (λ s. begun (body w.context f.body s)) (params-gives m f.params w _ es1 k h1 0) (λ es2 h2. body-gives m (with_params w f.params) _ es2 k h2 f.body)))
