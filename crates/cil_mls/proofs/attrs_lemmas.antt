-- What crates above take of the lemmas of cil_attrs.
pub use Rattle.cil_attrs.proofs.DeclaredLemmas
pub use Rattle.cil_attrs.proofs.FaultLemmas
pub use Rattle.cil_attrs.proofs.GiverLemmas
pub use Rattle.cil_attrs.proofs.HoldingLemmas
pub use Rattle.cil_attrs.proofs.MembersLemmas
pub use Rattle.cil_attrs.proofs.PlainLemmas
