-- What is wrong, in a few words. This project's profile.
use Rattle.std.specs.Prelude.{ℕ, List, codes}
use Rattle.cil_faults.specs.declared.code.FaultCode.{FaultCode}
use Rattle.cil_faults.specs.declared.code.FaultCode.TheVariants as causes
use Rattle.cil_sexpr.specs.declared.fault.ReadCode.{ReadCode}
use Rattle.cil_sexpr.specs.declared.fault.ReadCode.TheVariants as reads

-- of the text of a policy
abbrev pub sentence_of : FaultCode → List ℕ
sentence_of causes.UnknownStatement = codes "unknown statement"
sentence_of causes.Unsupported = codes "not supported"
sentence_of causes.BadShape = codes "wrong shape"
sentence_of causes.BadPlace = codes "wrong place"
sentence_of causes.BadName = codes "no name"
sentence_of causes.ReservedName = codes "reserved word"
sentence_of causes.ParameterClash = codes "name of a parameter"
sentence_of causes.NameTwice = codes "two blocks or macros of one name"
sentence_of causes.InheritUnresolved = codes "no such block"
sentence_of causes.InheritCycle = codes "block that inherits itself"
sentence_of causes.CallCycle = codes "macro that calls itself"
sentence_of causes.CallArguments = codes "wrong arguments"
sentence_of causes.Clash = codes "two different declarations"
sentence_of causes.CallPlace = codes "call of what no branch may have"
sentence_of causes.ExpansionLimit = codes "too many statements"
sentence_of causes.Unresolved = codes "unresolved name"
sentence_of causes.AliasOpen = codes "alias without a target"
sentence_of causes.AliasTwice = codes "alias with two targets"
sentence_of causes.AliasCycle = codes "alias that leads to itself"
sentence_of causes.SetCycle = codes "set that depends on itself"
sentence_of causes.ClassWide = codes "class with too many permissions"
sentence_of causes.CommonTwice = codes "class with two different commons"
sentence_of causes.SensitivityOrder = codes "no one order of sensitivities"
sentence_of causes.CategoryOrder = codes "no one order of categories"
sentence_of causes.MlsTwice = codes "levels both on and off"
sentence_of causes.TooMany = codes "too many of one kind"
sentence_of causes.LevelCategory = codes "category not permitted to the sensitivity"
sentence_of causes.RangeOrder = codes "range from high to low"
sentence_of causes.UserNoRange = codes "user without a range"
sentence_of causes.UserRangeTwice = codes "user with two ranges"
sentence_of causes.NeverAllow = codes "forbidden and allowed"

-- of a text that cannot be read
abbrev pub reading_sentence : ReadCode → List ℕ
reading_sentence reads.TooLong = codes "text of more than 4194304 bytes"
reading_sentence reads.Unclosed = codes "list that is not closed"
reading_sentence reads.StrayClose = codes "bracket that closes no list"
reading_sentence reads.OpenQuote = codes "string that is not closed on its line"
reading_sentence reads.BadByte = codes "byte that is not allowed in a text"
reading_sentence reads.TooDeep = codes "lists nested more than 128 deep"
reading_sentence reads.OutsideList = codes "word or string outside all lists"
