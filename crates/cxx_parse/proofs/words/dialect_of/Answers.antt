use Rattle.std.proofs.Common.{rules, ◌≡◌, codes, sym, subst}
use Rattle.agxx_base.specs.Names.{number_of, interned}
use Rattle.cxx_parse.specs.Numbering.{IsLonger, with_special}
use Rattle.cxx_parse.proofs.Numbers.{longer_five, longer_special, dialect_is}
use Rattle.cxx_parse.proofs.words.dialect_of.Goals as goal

pub returns-clause-dialect : goal.returns-clause-dialect
returns-clause-dialect c =
    let names : _ = c.args.names.now in
    let a : c.in_ok-std.std.0 ≡ number_of names (codes "std") = search rules in
    let b : c.in_ok-mutex.mutex.0 ≡ number_of (interned names (codes "std")) (codes "mutex") = search rules in
    let t : c.in_ok-thread.thread.0 ≡ number_of (interned (interned names (codes "std")) (codes "mutex")) (codes "thread") = search rules in
    let o : c.in_ok-cout.cout.0 ≡ number_of (interned (interned (interned names (codes "std")) (codes "mutex")) (codes "thread")) (codes "cout") = search rules in
    let e : c.in_ok-endl.endl.0 ≡ number_of (interned (interned (interned (interned names (codes "std")) (codes "mutex")) (codes "thread")) (codes "cout")) (codes "endl") = search rules in
    let f : c.in_ok-abort.abort.0 ≡ number_of (interned (interned (interned (interned (interned names (codes "std")) (codes "mutex")) (codes "thread")) (codes "cout")) (codes "endl")) (codes "abort") = search rules in
    let l : c.intern-6.new.self ≡ with_special names = search rules in
    dialect_is c.args.mode names _ _ _ _ _ _ a b t o e f c.intern-6.new.self l

pub returns-in_err-abort-clause-kept : goal.returns-in_err-abort-clause-kept
returns-in_err-abort-clause-kept c =
    let names : _ = c.args.names.now in
    let l : c.intern-6.new.self ≡ interned (interned (interned (interned (interned names (codes "std")) (codes "mutex")) (codes "thread")) (codes "cout")) (codes "endl") = search rules in
    subst (IsLonger names) (sym l) (longer_five names)

pub returns-clause-kept : goal.returns-clause-kept
returns-clause-kept c =
    let names : _ = c.args.names.now in
    let l : c.intern-6.new.self ≡ with_special names = search rules in
    subst (IsLonger names) (sym l) (longer_special names)
