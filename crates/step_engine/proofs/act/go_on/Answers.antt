use Rattle.std.proofs.Common.{◌≡◌, true, refl}
use Rattle.step_frame.specs.declared.work.Work.{Work}
use Rattle.step_frame.specs.declared.work.Work.TheVariants as work
use Rattle.step_engine.specs.Families.{goes_on}
use Rattle.step_engine.proofs.act.go_on.Goals as goal

-- each item that goes on has an arm
pub unreachable-requires : goal.unreachable-requires
unreachable-requires g c = go c.args.work refl c.requires
  where
    go : (w : Work) → c.args.work ≡ w → goes_on w ≡ true → ⊥
    go work.Finish e p = c.in_default.not-Finish e
    go (work.While x body) e p = c.in_default.not-While x body e
    go (work.OpOne at o) e p = c.in_default.not-OpOne at o e
    go (work.OpTwo at o) e p = c.in_default.not-OpTwo at o e
    go (work.OpLeft at o) e p = c.in_default.not-OpLeft at o e
    go (work.Cast k) e p = c.in_default.not-Cast k e
    go (work.Short is_and x) e p = c.in_default.not-Short is_and x e
    go work.Truth e p = c.in_default.not-Truth e
    go work.Drop e p = c.in_default.not-Drop e
    go (work.Bind name t) e p = c.in_default.not-Bind name t e
    go (work.Keep t) e p = c.in_default.not-Keep t e
    go (work.Branch a b) e p = c.in_default.not-Branch a b e
    go (work.Loop x body) e p = c.in_default.not-Loop x body e
    go (work.ForTest x step body) e p = c.in_default.not-ForTest x step body e
    go (work.ForLoop x step body) e p = c.in_default.not-ForLoop x step body e
    go (work.Leave at) e p = c.in_default.not-Leave at e
    go (work.End at ending) e p = c.in_default.not-End at ending e
    go _ e p = cc
