-- What crates above take of cil_faults.
pub use Rattle.cil_faults.specs.declared.failure.Failure
pub use Rattle.cil_faults.specs.declared.fault.Fault
