-- The turn that a state takes is what it answers.
use Rattle.std.proofs.Common.{◌≡◌, ℕ, Option, Some, None, refl, ap, ◌∙◌}
use Rattle.step_machine.specs.Total.{Total, OffThread, off_thread, next_if, turn_of}
use Rattle.ghost_state.specs.Deeds.{answer_of, reads_over}
use Rattle.ghost_state.specs.Lemmas.{after_answer, AnswersAreTurns}

by-off : (m : Total) (t : ℕ) (o : Option OffThread) → turn_of m t o ≡ after_answer m t (answer_of m.setting (reads_over m t) t o)
by-off m t None = refl
by-off m t (Some x) = refl

pub answers-are-turns : AnswersAreTurns
answers-are-turns m t running = ap (λ s. next_if s m t) running ∙ by-off m t (off_thread (m.frames t))
