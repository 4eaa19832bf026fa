use Rattle.std.proofs.Common.{◌++◌, ◌∷◌, [], sym, ap, ◌∙◌, subst}
use Rattle.ah_parse.specs.Descent.{IsClass, AreClasses}
use Rattle.ah_parse.proofs.Classes.{WereRead, reads-more, reads-last, reads-no-more}
use Rattle.ah_parse.proofs.reader.Reader.classes.Goals as goal

pub returns-in_default : goal.returns-in_default
returns-in_default c = reads-no-more c.classes.classes c.args.self.now c.classes.self c.classes.invariant c.in_default.ensures

pub returns-then-last : goal.returns-then-last
returns-then-last c =
    subst (λ cs. AreClasses cs c.args.self.now c.class.new.self) (sym (c.in_ok-push.ensures.ok ∙ ap (λ t. c.classes.classes ++ t ∷ []) c.in_ok-text.ensures))
    (reads-last c.classes.classes c.in-Some.class.now c.args.self.now c.classes.self c.class.new.self c.classes.invariant
    (subst (λ last. IsClass c.in-Some.class.now last c.classes.self c.class.new.self) c.if-last.true c.in-Some.ensures))

pub classes-preserved : goal.classes-preserved
classes-preserved c =
    subst (λ cs. WereRead cs c.args.self.now c.class.new.self) (sym (c.in_ok-push.ensures.ok ∙ ap (λ t. c.classes.classes ++ t ∷ []) c.in_ok-text.ensures))
    (reads-more c.classes.classes c.in-Some.class.now c.args.self.now c.classes.self c.class.new.self c.classes.invariant
    (subst (λ last. IsClass c.in-Some.class.now last c.classes.self c.class.new.self) c.if-last.false c.in-Some.ensures))
