use Rattle.std.proofs.Common.{sym, subst}
use Rattle.cxx_lex.specs.Tokens.{token_of}
use Rattle.ah_parse.specs.Aspects.{IsAspect}
use Rattle.ah_parse.proofs.Parts.{whole, no-heading, no-classes, no-close}
use Rattle.ah_parse.proofs.reader.Reader.aspect.Goals as goal

pub returns-in_default : goal.returns-in_default
returns-in_default c = no-heading c.args.self.now c.in_default.ensures

pub returns-in_default-2 : goal.returns-in_default-2
returns-in_default-2 c =
    no-classes c.in-Some.guard (token_of c.in-Some.name) c.args.self.now c.heading.new.self
    c.in-Some.ensures (rw c.in_default-2.is at c.in_ok-classes.ensures)

pub returns-then-not-pass_all : goal.returns-then-not-pass_all
returns-then-not-pass_all c =
    no-close c.in-Some.guard (token_of c.in-Some.name) c.in-Some-2.classes c.args.self.now c.heading.new.self c.classes.new.self
    c.in-Some.ensures (rw c.in-Some-2.is at c.in_ok-classes.ensures) c.if-not-pass_all.ensures

pub returns : goal.returns
returns c =
    subst
    (λ text. IsAspect (record { name = text; at = c.in-Some.name.at; kind = c.in-Some.guard; classes = c.in-Some-2.classes }) c.args.self.now c.pass_all.new.self)
    (sym c.in_ok-text.ensures)
    (whole c.in-Some.guard (token_of c.in-Some.name) c.in-Some-2.classes c.args.self.now c.heading.new.self c.classes.new.self c.pass_all.new.self
    c.in-Some.ensures (rw c.in-Some-2.is at c.in_ok-classes.ensures) c.if-not-pass_all.ensures)
