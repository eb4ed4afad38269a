-- Whether two declarations, symbols or name spaces are equal.
use Rattle.std.proofs.Common.{◌≡◌, ℕ, [], ◌∷◌, get_or, refl, ap}
use Rattle.cil_base.specs.Decided.{Decided, by_number, decided_both, decided_same, same_list, same_text}
use Rattle.cil_syntax.proofs.DecidedEquality.{kind_is, same_namespace, same_terms, sign_is}
use Rattle.cil_syntax.specs.declared.name_space.NameSpace.{NameSpace}
use Rattle.cil_syntax.specs.declared.name_space.NameSpace.TheVariants as name_spaces
use Rattle.cil_syntax.specs.NameSpaces.{rank_in}
use Rattle.cil_names.specs.Declarations.{Bare, Declaration, Symbol}

-- ---- name spaces, by their numbers

pub name_space_at : ℕ → NameSpace
name_space_at n =
    get_or
    (name_spaces.Types ∷ name_spaces.Roles ∷ name_spaces.Users ∷ name_spaces.Classes ∷ name_spaces.Blocks ∷ name_spaces.Commons
    ∷ name_spaces.ClassPermissions ∷ name_spaces.Booleans ∷ name_spaces.Sensitivities ∷ name_spaces.Categories ∷ name_spaces.Levels ∷ name_spaces.LevelRanges ∷ [])
    n name_spaces.Types

pub ranked_back : (n : NameSpace) → name_space_at (rank_in n) ≡ n
unfolding name_space_at
ranked_back name_spaces.Types = refl
ranked_back n = refl

pub same_name_space : (a b : NameSpace) → Decided (a ≡ b)
same_name_space = by_number rank_in name_space_at ranked_back

-- ---- symbols

pub symbol_by : (t u : Symbol) → t.space ≡ u.space → t.name ≡ u.name → t ≡ u
symbol_by t u p q = λ i. record { space = p i; name = q i }

pub same_symbol : (t u : Symbol) → Decided (t ≡ u)
same_symbol t u =
    decided_same (λ h. symbol_by t u h.0 h.1) (λ e. (ap (λ (s : Symbol). s.space) e, ap (λ (s : Symbol). s.name) e))
    (decided_both (same_namespace t.space u.space) (same_text t.name u.name))

-- ---- declarations

same_bare : (a b : Bare) → Decided (a ≡ b)
same_bare a b =
    decided_same (λ h i. record { bytes = h.0 i; sign = h.1.0 i; scope = h.1.1 i }) (λ e. (ap (λ (w : Bare). w.bytes) e, (ap (λ (w : Bare). w.sign) e, ap (λ (w : Bare). w.scope) e)))
    (decided_both (same_text a.bytes b.bytes) (decided_both (sign_is a.sign b.sign) (same_list same_namespace a.scope b.scope)))

pub same_declaration : (a b : Declaration) → Decided (a ≡ b)
same_declaration a b =
    decided_same (λ h i. record { kind = h.0 i; space = h.1.0 i; name = h.1.1.0 i; content = h.1.1.1 i })
    (λ e. (ap (λ (d : Declaration). d.kind) e, (ap (λ (d : Declaration). d.space) e, (ap (λ (d : Declaration). d.name) e, ap (λ (d : Declaration). d.content) e))))
    (decided_both (kind_is a.kind b.kind) (decided_both (same_namespace a.space b.space) (decided_both (same_text a.name b.name) (same_terms same_bare a.content b.content))))
