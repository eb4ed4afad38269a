-- The numbers by which faults of tables are told. This project's profile.
use Rattle.std.specs.Prelude.{ℕ}
use Rattle.cil_format.specs.declared.fault.TableFault.{TableFault}
use Rattle.cil_format.specs.declared.fault.TableFault.TheVariants.{BadMagic, BadVersion, Short, NotCanonical, OutOfRange, Trailing}

abbrev pub code_of : TableFault → ℕ
code_of BadMagic = 91
code_of BadVersion = 92
code_of Short = 93
code_of NotCanonical = 94
code_of OutOfRange = 95
code_of Trailing = 96
