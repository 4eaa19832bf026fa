-- Who is inside a part, by the frames of all threads.
use Rattle.std.proofs.Common.{◌≡◌, ℕ, Bool, ◌||◌, List, [], ◌∷◌, reverse, refl, ap, ◌∙◌}
use Rattle.std.proofs.Math.Path.{fun_ext}
use Rattle.std.specs.List.{list_any}
use Rattle.std.proofs.lemmas.List.Sorted.{IsPermutation-reverse, list_any-IsPermutation}
use Rattle.agxx_base.specs.declared.ids.ClassId.{ClassId}
use Rattle.step_machine.specs.Setting.{Setting}
use Rattle.step_machine.specs.Frame.{Frame}
use Rattle.step_machine.specs.Turn.{Thread}
use Rattle.step_machine.specs.Machine.{Machine}
use Rattle.step_machine.specs.Total.{reading}
use Rattle.fault_model.specs.Inside.{is_inside, is_frame_on, are_inside}
use Rattle.fault_model.proofs.Insides.{inside-is-emptied}

pub any-reverse : (p : Frame → Bool) (frames thread : List Frame) → reverse frames ≡ thread → list_any p frames ≡ list_any p thread
any-reverse p frames thread e = list_any-IsPermutation p frames (reverse frames) (IsPermutation-reverse frames) ∙ ap (list_any p) e

-- the frames above don't matter
thread-inside : (s : Setting) (o : ℕ) (class : ClassId) (above : List Frame) (fs : Thread) → are_inside s o class above fs ≡ list_any (is_frame_on s o class) fs
thread-inside s o class above [] = refl
thread-inside s o class above (f ∷ fs) = ap (λ b. is_frame_on s o class f || b) (thread-inside s o class (f ∷ above) fs)

pub inside-on : (m : Machine) (o : ℕ) (class : ClassId) → is_inside (reading m) o class ≡ list_any (list_any (is_frame_on m.setting o class)) m.threads
inside-on m o class =
    inside-is-emptied.of_lists m o class ∙ ap (λ p. list_any p m.threads) (fun_ext (λ fs. thread-inside m.setting o class [] fs))
