-- What is in an optional or in a booleanif stands where that stands: the two are all that keep their place.
use Rattle.std.proofs.Common.{◌≡◌, ◌⊎◌, true, false, refl, inl, inr}
use Rattle.cil_syntax.specs.declared.kind.Keyword.{Keyword}
use Rattle.cil_syntax.specs.declared.kind.Keyword.TheVariants as keywords
use Rattle.cil_blocks.specs.Contents.{is_conditional, is_optional, keeps_place}

pub optional_keeps : (k : Keyword) → is_optional k ≡ true → keeps_place k ≡ true
optional_keeps keywords.Optional e = refl
optional_keeps k e = absurd (let f : false ≡ true = e in cc)

pub conditional_keeps : (k : Keyword) → is_conditional k ≡ true → keeps_place k ≡ true
conditional_keeps keywords.BooleanIf e = refl
conditional_keeps k e = absurd (let f : false ≡ true = e in cc)

-- one of the two
pub which_keeps : (k : Keyword) → keeps_place k ≡ true → (is_optional k ≡ true) ⊎ (is_conditional k ≡ true)
which_keeps keywords.Optional e = inl refl
which_keeps keywords.BooleanIf e = inr refl
which_keeps k e = absurd (let f : false ≡ true = e in cc)

-- and not both
pub optional_unconditional : (k : Keyword) → is_optional k ≡ true → is_conditional k ≡ false
optional_unconditional keywords.BooleanIf e = absurd (let f : false ≡ true = e in cc)
optional_unconditional k e = refl

pub conditional_no_optional : (k : Keyword) → is_conditional k ≡ true → is_optional k ≡ false
conditional_no_optional keywords.Optional e = absurd (let f : false ≡ true = e in cc)
conditional_no_optional k e = refl

-- what keeps no place is neither
pub no_optional : (k : Keyword) → keeps_place k ≡ false → is_optional k ≡ false
no_optional keywords.Optional e = absurd (let f : true ≡ false = e in cc)
no_optional k e = refl

pub no_conditional : (k : Keyword) → keeps_place k ≡ false → is_conditional k ≡ false
no_conditional keywords.BooleanIf e = absurd (let f : true ≡ false = e in cc)
no_conditional k e = refl
