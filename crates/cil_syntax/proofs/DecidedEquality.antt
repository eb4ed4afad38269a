-- Whether two values are equal: kinds, signs, statements' keywords, positions, namespaces, terms.
use Rattle.std.specs.Cmp.Lexicographic.{bytes_decides, pointwise_decides}
use Rattle.std.proofs.Common.{◌≡◌, ℕ, true, false, List, [], ◌∷◌, get_or, refl, sym, ◌∙◌, ap, inl, inr, arith}
use Rattle.std.specs.Prelude.{nat_eq}
use Rattle.std.proofs.lemmas.Bool.{cases_Bool}
use Rattle.cil_base.specs.Decided.{Decided, by_number, decided_both, decided_same, same_list, same_number, same_text}
use Rattle.cil_syntax.specs.declared.kind.Keyword.{Keyword}
use Rattle.cil_syntax.specs.declared.kind.Keyword.TheVariants as keywords
use Rattle.cil_syntax.specs.declared.kind.Kind.{Kind}
use Rattle.cil_syntax.specs.declared.kind.Sign.{Sign}
use Rattle.cil_syntax.specs.declared.kind.Sign.TheVariants as signs
use Rattle.cil_syntax.specs.declared.term.Op.{Op}
use Rattle.cil_syntax.specs.declared.term.Op.TheVariants as ops
use Rattle.cil_faults.specs.declared.spot.Spot.{Spot}
use Rattle.cil_syntax.specs.Kinds.{kind_number}
use Rattle.cil_faults.specs.Namespaces.{Namespace}
use Rattle.cil_syntax.specs.Scopes.{same_space}
use Rattle.cil_syntax.specs.Terms.{Term, Leaf, Name, Form, Terms, nil, cons}
use Rattle.cil_syntax.proofs.KindLemmas.{one_kind, same_kind}

-- ---- namespaces

pub same_namespace : (a b : Namespace) → Decided (a ≡ b)
same_namespace = same_list same_text

-- the test of the definitions tells it
pub spaces_decide : (a b : Namespace) → (same_space a b ≡ true → a ≡ b) × (a ≡ b → same_space a b ≡ true)
spaces_decide a b = pointwise_decides bytes_decides a b

-- ---- enums, by a number for each variant

pub kind_is : (a b : Kind) → Decided (a ≡ b)
kind_is a b = elim (cases_Bool (nat_eq (kind_number a) (kind_number b))) [
  | inl t ↦ inl (one_kind a b t)
  | inr f ↦ inr (λ e. let t = same_kind a b e in let g : true ≡ false = sym t ∙ f in cc)
]

keyword_number : Keyword → ℕ
keyword_number keywords.Type_ = 0
keyword_number keywords.Class = 1
keyword_number keywords.Role = 2
keyword_number keywords.User = 3
keyword_number keywords.RoleType = 4
keyword_number keywords.UserRole = 5
keyword_number keywords.Allow = 6
keyword_number keywords.Block = 7
keyword_number keywords.BlockAbstract = 8
keyword_number keywords.BlockInherit = 9
keyword_number keywords.Macro = 10
keyword_number keywords.Call = 11
keyword_number keywords.Optional = 12
keyword_number keywords.Common = 13
keyword_number keywords.ClassCommon = 14
keyword_number keywords.ClassMap = 15
keyword_number keywords.ClassMapping = 16
keyword_number keywords.ClassPermission = 17
keyword_number keywords.ClassPermissionSet = 18
keyword_number keywords.ClassOrder = 19
keyword_number keywords.TypeAlias = 20
keyword_number keywords.TypeAliasActual = 21
keyword_number keywords.TypeAttribute = 22
keyword_number keywords.TypeAttributeSet = 23
keyword_number keywords.ExpandTypeAttribute = 24
keyword_number keywords.TypeTransition = 25
keyword_number keywords.TypeChange = 26
keyword_number keywords.TypeMember = 27
keyword_number keywords.RoleAttribute = 28
keyword_number keywords.RoleAttributeSet = 29
keyword_number keywords.RoleAllow = 30
keyword_number keywords.RoleTransition = 31
keyword_number keywords.UserAttribute = 32
keyword_number keywords.UserAttributeSet = 33
keyword_number keywords.UserLevel = 34
keyword_number keywords.UserRange = 35
keyword_number keywords.Boolean = 36
keyword_number keywords.BooleanIf = 37
keyword_number keywords.AuditAllow = 38
keyword_number keywords.DontAudit = 39
keyword_number keywords.NeverAllow = 40
keyword_number keywords.Constrain = 41
keyword_number keywords.MlsConstrain = 42
keyword_number keywords.Mls = 43
keyword_number keywords.Sensitivity = 44
keyword_number keywords.SensitivityAlias = 45
keyword_number keywords.SensitivityAliasActual = 46
keyword_number keywords.SensitivityOrder = 47
keyword_number keywords.SensitivityCategory = 48
keyword_number keywords.Category = 49
keyword_number keywords.CategoryAlias = 50
keyword_number keywords.CategoryAliasActual = 51
keyword_number keywords.CategoryOrder = 52
keyword_number keywords.CategorySet = 53
keyword_number keywords.Level = 54
keyword_number keywords.LevelRange = 55
keyword_number keywords.RangeTransition = 56
keyword_number keywords.SetAside = 57

keyword_at : ℕ → Keyword
keyword_at n =
    get_or
    (keywords.Type_ ∷ keywords.Class ∷ keywords.Role ∷ keywords.User ∷ keywords.RoleType ∷ keywords.UserRole ∷ keywords.Allow ∷
    keywords.Block ∷ keywords.BlockAbstract ∷ keywords.BlockInherit ∷ keywords.Macro ∷ keywords.Call ∷ keywords.Optional ∷
    keywords.Common ∷ keywords.ClassCommon ∷ keywords.ClassMap ∷ keywords.ClassMapping ∷ keywords.ClassPermission ∷
    keywords.ClassPermissionSet ∷ keywords.ClassOrder ∷ keywords.TypeAlias ∷ keywords.TypeAliasActual ∷ keywords.TypeAttribute ∷
    keywords.TypeAttributeSet ∷ keywords.ExpandTypeAttribute ∷ keywords.TypeTransition ∷ keywords.TypeChange ∷ keywords.TypeMember ∷
    keywords.RoleAttribute ∷ keywords.RoleAttributeSet ∷ keywords.RoleAllow ∷ keywords.RoleTransition ∷ keywords.UserAttribute ∷
    keywords.UserAttributeSet ∷ keywords.UserLevel ∷ keywords.UserRange ∷ keywords.Boolean ∷ keywords.BooleanIf ∷ keywords.AuditAllow
    ∷ keywords.DontAudit ∷ keywords.NeverAllow ∷ keywords.Constrain ∷ keywords.MlsConstrain ∷ keywords.Mls ∷ keywords.Sensitivity ∷
    keywords.SensitivityAlias ∷ keywords.SensitivityAliasActual ∷ keywords.SensitivityOrder ∷ keywords.SensitivityCategory ∷
    keywords.Category ∷ keywords.CategoryAlias ∷ keywords.CategoryAliasActual ∷ keywords.CategoryOrder ∷ keywords.CategorySet ∷
    keywords.Level ∷ keywords.LevelRange ∷ keywords.RangeTransition ∷ keywords.SetAside ∷ [])
    n keywords.Type_

keyword_back : (x : Keyword) → keyword_at (keyword_number x) ≡ x
unfolding keyword_number keyword_at
keyword_back keywords.Type_ = refl
keyword_back k = refl

pub keyword_is : (a b : Keyword) → Decided (a ≡ b)
keyword_is = by_number keyword_number keyword_at keyword_back

sign_number : Sign → ℕ
sign_number signs.Types = 0
sign_number signs.PlainType = 1
sign_number signs.TypeAttributes = 2
sign_number signs.TypeAliases = 3
sign_number signs.Roles = 4
sign_number signs.PlainRole = 5
sign_number signs.RoleAttributes = 6
sign_number signs.Users = 7
sign_number signs.PlainUser = 8
sign_number signs.UserAttributes = 9
sign_number signs.Classes = 10
sign_number signs.Permission = 11
sign_number signs.PlainClass = 12
sign_number signs.ClassMaps = 13
sign_number signs.Commons = 14
sign_number signs.ClassPermissions = 15
sign_number signs.NamedPermissions = 16
sign_number signs.MappedPermissions = 17
sign_number signs.Booleans = 18
sign_number signs.Sensitivities = 19
sign_number signs.SensitivityAliases = 20
sign_number signs.Categories = 21
sign_number signs.CategoryAliases = 22
sign_number signs.CategorySets = 23
sign_number signs.Levels = 24
sign_number signs.LevelRanges = 25
sign_number signs.Blocks = 26
sign_number signs.Macros = 27
sign_number signs.Text = 28
sign_number signs.Unread = 29

sign_at : ℕ → Sign
sign_at n =
    get_or
    (signs.Types ∷ signs.PlainType ∷ signs.TypeAttributes ∷ signs.TypeAliases ∷ signs.Roles ∷ signs.PlainRole ∷ signs.RoleAttributes ∷
    signs.Users ∷ signs.PlainUser ∷ signs.UserAttributes ∷ signs.Classes ∷ signs.Permission ∷ signs.PlainClass ∷ signs.ClassMaps ∷
    signs.Commons ∷ signs.ClassPermissions ∷ signs.NamedPermissions ∷ signs.MappedPermissions ∷ signs.Booleans ∷ signs.Sensitivities ∷
    signs.SensitivityAliases ∷ signs.Categories ∷ signs.CategoryAliases ∷ signs.CategorySets ∷ signs.Levels ∷ signs.LevelRanges ∷
    signs.Blocks ∷ signs.Macros ∷ signs.Text ∷ signs.Unread ∷ [])
    n signs.Types

sign_back : (x : Sign) → sign_at (sign_number x) ≡ x
unfolding sign_number sign_at
sign_back signs.Types = refl
sign_back s = refl

pub sign_is : (a b : Sign) → Decided (a ≡ b)
sign_is = by_number sign_number sign_at sign_back

op_number : Op → ℕ
op_number ops.Listed = 0
op_number ops.ClassPermissions = 1
op_number ops.Union = 2
op_number ops.Not = 3
op_number ops.And = 4
op_number ops.Or = 5
op_number ops.Xor = 6
op_number ops.All = 7
op_number ops.Range = 8
op_number ops.Group = 9
op_number ops.Equal = 10
op_number ops.Unequal = 11
op_number ops.Dominates = 12
op_number ops.DominatedBy = 13
op_number ops.Incomparable = 14
op_number ops.SourceUser = 15
op_number ops.TargetUser = 16
op_number ops.SourceRole = 17
op_number ops.TargetRole = 18
op_number ops.SourceType = 19
op_number ops.TargetType = 20
op_number ops.SourceLow = 21
op_number ops.TargetLow = 22
op_number ops.SourceHigh = 23
op_number ops.TargetHigh = 24
op_number ops.Yes = 25
op_number ops.No = 26
op_number ops.TrueBranch = 27
op_number ops.FalseBranch = 28
op_number ops.Unordered = 29
op_number ops.Level = 30
op_number ops.LevelRange = 31
op_number ops.Itself = 32
op_number ops.LeftOut = 33
op_number ops.Parameters = 34
op_number ops.Parameter = 35
op_number ops.TypeKind = 36
op_number ops.RoleKind = 37
op_number ops.UserKind = 38
op_number ops.BooleanKind = 39
op_number ops.ClassKind = 40
op_number ops.ClassMapKind = 41
op_number ops.ClassPermissionKind = 42
op_number ops.SensitivityKind = 43
op_number ops.CategoryKind = 44
op_number ops.CategorySetKind = 45
op_number ops.LevelKind = 46
op_number ops.LevelRangeKind = 47
op_number ops.NameKind = 48
op_number ops.TextKind = 49
op_number ops.Arguments = 50
op_number ops.UnreadList = 51
op_number ops.UnreadText = 52

op_at : ℕ → Op
op_at n =
    get_or
    (ops.Listed ∷ ops.ClassPermissions ∷ ops.Union ∷ ops.Not ∷ ops.And ∷ ops.Or ∷ ops.Xor ∷ ops.All ∷ ops.Range ∷ ops.Group ∷ ops.Equal
    ∷ ops.Unequal ∷ ops.Dominates ∷ ops.DominatedBy ∷ ops.Incomparable ∷ ops.SourceUser ∷ ops.TargetUser ∷ ops.SourceRole ∷
    ops.TargetRole ∷ ops.SourceType ∷ ops.TargetType ∷ ops.SourceLow ∷ ops.TargetLow ∷ ops.SourceHigh ∷ ops.TargetHigh ∷ ops.Yes ∷
    ops.No ∷ ops.TrueBranch ∷ ops.FalseBranch ∷ ops.Unordered ∷ ops.Level ∷ ops.LevelRange ∷ ops.Itself ∷ ops.LeftOut ∷ ops.Parameters
    ∷ ops.Parameter ∷ ops.TypeKind ∷ ops.RoleKind ∷ ops.UserKind ∷ ops.BooleanKind ∷ ops.ClassKind ∷ ops.ClassMapKind ∷
    ops.ClassPermissionKind ∷ ops.SensitivityKind ∷ ops.CategoryKind ∷ ops.CategorySetKind ∷ ops.LevelKind ∷ ops.LevelRangeKind ∷
    ops.NameKind ∷ ops.TextKind ∷ ops.Arguments ∷ ops.UnreadList ∷ ops.UnreadText ∷ [])
    n ops.Listed

op_back : (x : Op) → op_at (op_number x) ≡ x
unfolding op_number op_at
op_back ops.Listed = refl
op_back o = refl

pub op_is : (a b : Op) → Decided (a ≡ b)
op_is = by_number op_number op_at op_back

-- ---- terms

pub same_spot : (a b : Spot) → Decided (a ≡ b)
same_spot a b =
    decided_same (λ h i. record { «module» = h.0 i; at = h.1 i }) (λ e. (ap (λ (s : Spot). s.«module») e, ap (λ (s : Spot). s.at) e))
    (decided_both (same_number a.«module» b.«module») (same_number a.at b.at))

-- which constructor a term has
abbrev variant : {L : Type 0} → Term L → ℕ
variant (Leaf w) = 0
variant (Name at bytes) = 1
variant (Form at op parts) = 2

abbrev word_or : {L : Type 0} → L → Term L → L
word_or d (Leaf w) = w
word_or d t = d

abbrev name_or : {L : Type 0} → Spot × List ℕ → Term L → Spot × List ℕ
name_or d (Name at bytes) = (at, bytes)
name_or d t = d

abbrev form_or : {L : Type 0} → Spot × Op × Terms L → Term L → Spot × Op × Terms L
form_or d (Form at op parts) = (at, op, parts)
form_or d t = d

abbrev is_cons : {L : Type 0} → Terms L → ℕ
is_cons nil = 0
is_cons (cons t ts) = 1

abbrev first_or : {L : Type 0} → Term L → Terms L → Term L
first_or d nil = d
first_or d (cons t ts) = t

abbrev rest_or : {L : Type 0} → Terms L → Terms L → Terms L
rest_or d nil = d
rest_or d (cons t ts) = ts

-- for leaves that are decided
module _ {L : Type 0} (same_leaf : (v w : L) → Decided (v ≡ w)) where
  mutual
    pub same_term : (a b : Term L) → Decided (a ≡ b)
    same_term (Leaf v) (Leaf w) = decided_same (ap Leaf) (ap (word_or v)) (same_leaf v w)
    same_term (Leaf v) (Name at bytes) = inr (λ e. let f : 0 ≡ 1 = ap variant e in omega (arith, f))
    same_term (Leaf v) (Form at op parts) = inr (λ e. let f : 0 ≡ 2 = ap variant e in omega (arith, f))
    same_term (Name at bytes) (Leaf w) = inr (λ e. let f : 1 ≡ 0 = ap variant e in omega (arith, f))
    same_term (Name at a) (Name bt b) =
        decided_same (λ h i. Name (h.0 i) (h.1 i)) (λ e. (ap (λ t. (name_or (at, a) t).0) e, ap (λ t. (name_or (at, a) t).1) e))
        (decided_both (same_spot at bt) (same_text a b))
    same_term (Name at bytes) (Form bt op parts) = inr (λ e. let f : 1 ≡ 2 = ap variant e in omega (arith, f))
    same_term (Form at op parts) (Leaf w) = inr (λ e. let f : 2 ≡ 0 = ap variant e in omega (arith, f))
    same_term (Form at op parts) (Name bt bytes) = inr (λ e. let f : 2 ≡ 1 = ap variant e in omega (arith, f))
    same_term (Form at p ts) (Form bt q us) =
        decided_same (λ h i. Form (h.0 i) (h.1.0 i) (h.1.1 i))
        (λ e. (ap (λ t. (form_or (at, p, ts) t).0) e, (ap (λ t. (form_or (at, p, ts) t).1) e, ap (λ t. (form_or (at, p, ts) t).2) e)))
        (decided_both (same_spot at bt) (decided_both (op_is p q) (same_terms ts us)))

    pub same_terms : (a b : Terms L) → Decided (a ≡ b)
    same_terms nil nil = inl refl
    same_terms nil (cons u us) = inr (λ e. let f : 0 ≡ 1 = ap is_cons e in omega (arith, f))
    same_terms (cons t ts) nil = inr (λ e. let f : 1 ≡ 0 = ap is_cons e in omega (arith, f))
    same_terms (cons t ts) (cons u us) =
        decided_same (λ h i. cons (h.0 i) (h.1 i)) (λ e. (ap (first_or t) e, ap (rest_or ts) e)) (decided_both (same_term t u) (same_terms ts us))
