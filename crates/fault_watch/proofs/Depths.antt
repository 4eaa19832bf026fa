-- How many frames a thread has, by the frame that runs.
use Rattle.std.proofs.Common.{◌≡◌, [], ◌∷◌, length, Option, Some, None, refl, ap, sym}
use Rattle.step_machine.specs.Setting.{Setting}
use Rattle.step_machine.specs.Turn.{Thread}
use Rattle.fault_watch.specs.Tops.{top_of}
use Rattle.fault_watch.specs.declared.inside.Top.{Top}

depth-or : Top → Option Top → Top
depth-or t None = t
depth-or t (Some u) = u

pub depth-some : (s : Setting) (fs : Thread) (t : Top) → Some t ≡ top_of s fs → t.depth ≡ length fs
unfolding depth-or
depth-some s [] t e = cc e
depth-some s (f ∷ fs) t e = ap (λ x. (depth-or t x).depth) e

pub depth-none : (s : Setting) (fs : Thread) → None ≡ top_of s fs → 0 ≡ length fs
depth-none s [] e = refl
depth-none s (f ∷ fs) e = cc e
