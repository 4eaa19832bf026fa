-- What a call that reads tells.
use Rattle.agxx_base.specs.declared.fault.Fault.{Fault}
use Rattle.agxx_base.specs.declared.fault.Fault.TheVariants as fault
use Rattle.agxx_base.specs.declared.fault.Refusal.{Refusal}

-- a fact for the refusal, where the fault is one
abbrev pub IfRefused : Fault → (Refusal → Type 0) → Type 0
IfRefused (fault.Refused refusal) Fact = Fact refusal
IfRefused fault.Memory Fact = Unit {0}
