-- Sections of rules as they were read. No other crate needs this word.
use Rattle.cil_index.specs.Sections.{RuleSections}
use Rattle.cil_rule_bytes.specs.declared.sections.ReadSections.{ReadSections}

abbrev pub sections_read : ReadSections → RuleSections
sections_read s = record { allow = s.allow.items; auditallow = s.auditallow.items; dontaudit = s.dontaudit.items }
