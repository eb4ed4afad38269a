-- The numbers of the causes of faults. This project's profile.
use Rattle.std.specs.Prelude.{◌≡◌, ℕ, ◌==◌, if◌then◌else◌, refl}
use Rattle.std.proofs.Common.{sym, ◌∙◌, ap}
use Rattle.cil_faults.specs.declared.code.FaultCode.{FaultCode}
use Rattle.cil_faults.specs.declared.code.FaultCode.TheVariants.{UnknownStatement, Unsupported, BadShape, BadPlace, BadName, ReservedName, ParameterClash, NameTwice, InheritUnresolved, InheritCycle, CallCycle, CallArguments, Clash, CallPlace, ExpansionLimit, Unresolved, AliasOpen, AliasTwice, AliasCycle, SetCycle, ClassWide, CommonTwice, SensitivityOrder, CategoryOrder, MlsTwice, TooMany, LevelCategory, RangeOrder, UserNoRange, UserRangeTwice, NeverAllow}

-- the number of a cause
abbrev pub number_of : FaultCode → ℕ
number_of UnknownStatement = 21
number_of Unsupported = 22
number_of BadShape = 23
number_of BadPlace = 24
number_of BadName = 25
number_of ReservedName = 26
number_of ParameterClash = 27
number_of NameTwice = 31
number_of InheritUnresolved = 32
number_of InheritCycle = 33
number_of CallCycle = 34
number_of CallArguments = 35
number_of Clash = 36
number_of CallPlace = 37
number_of ExpansionLimit = 38
number_of Unresolved = 41
number_of AliasOpen = 51
number_of AliasTwice = 52
number_of AliasCycle = 53
number_of SetCycle = 54
number_of ClassWide = 55
number_of CommonTwice = 56
number_of SensitivityOrder = 57
number_of CategoryOrder = 58
number_of MlsTwice = 59
number_of TooMany = 60
number_of LevelCategory = 61
number_of RangeOrder = 62
number_of UserNoRange = 63
number_of UserRangeTwice = 64
number_of NeverAllow = 65

-- the cause of a number
numbered : ℕ → FaultCode
numbered n =
    if n == 21 then UnknownStatement
    else (if n == 22 then Unsupported
    else (if n == 23 then BadShape
    else (if n == 24 then BadPlace
    else (if n == 25 then BadName
    else (if n == 26 then ReservedName
    else (if n == 27 then ParameterClash
    else (if n == 31 then NameTwice
    else (if n == 32 then InheritUnresolved
    else (if n == 33 then InheritCycle
    else (if n == 34 then CallCycle
    else (if n == 35 then CallArguments
    else (if n == 36 then Clash
    else (if n == 37 then CallPlace
    else (if n == 38 then ExpansionLimit
    else (if n == 41 then Unresolved
    else (if n == 51 then AliasOpen
    else (if n == 52 then AliasTwice
    else (if n == 53 then AliasCycle
    else (if n == 54 then SetCycle
    else (if n == 55 then ClassWide
    else (if n == 56 then CommonTwice
    else (if n == 57 then SensitivityOrder
    else (if n == 58 then CategoryOrder
    else (if n == 59 then MlsTwice
    else (if n == 60 then TooMany
    else (if n == 61 then LevelCategory
    else (if n == 62 then RangeOrder
    else (if n == 63 then UserNoRange
    else (if n == 64 then UserRangeTwice
    else NeverAllow)))))))))))))))))))))))))))))

numbered-number_of : (c : FaultCode) → numbered (number_of c) ≡ c
unfolding numbered
numbered-number_of UnknownStatement = refl
numbered-number_of Unsupported = refl
numbered-number_of BadShape = refl
numbered-number_of BadPlace = refl
numbered-number_of BadName = refl
numbered-number_of ReservedName = refl
numbered-number_of ParameterClash = refl
numbered-number_of NameTwice = refl
numbered-number_of InheritUnresolved = refl
numbered-number_of InheritCycle = refl
numbered-number_of CallCycle = refl
numbered-number_of CallArguments = refl
numbered-number_of Clash = refl
numbered-number_of CallPlace = refl
numbered-number_of ExpansionLimit = refl
numbered-number_of Unresolved = refl
numbered-number_of AliasOpen = refl
numbered-number_of AliasTwice = refl
numbered-number_of AliasCycle = refl
numbered-number_of SetCycle = refl
numbered-number_of ClassWide = refl
numbered-number_of CommonTwice = refl
numbered-number_of SensitivityOrder = refl
numbered-number_of CategoryOrder = refl
numbered-number_of MlsTwice = refl
numbered-number_of TooMany = refl
numbered-number_of LevelCategory = refl
numbered-number_of RangeOrder = refl
numbered-number_of UserNoRange = refl
numbered-number_of UserRangeTwice = refl
numbered-number_of NeverAllow = refl

-- no two causes have one number
pub one_cause : (c d : FaultCode) → number_of c ≡ number_of d → c ≡ d
one_cause c d e = sym (numbered-number_of c) ∙ ap numbered e ∙ numbered-number_of d
