-- The rows of instances, and what they declare.
use Rattle.std.specs.Prelude.{◌⊎◌, Contains, None}
use Rattle.std.specs.List.{list_all}
use Rattle.std.proofs.Common.{◌≡◌, ℕ, ◌+◌, ◌<◌, Bool, true, false, List, [], ◌∷◌, ◌++◌, map, refl, sym, ◌∙◌, ap, subst, inl, inr, arith}
use Rattle.std.proofs.lemmas.Bool.{and_parts}
use Rattle.std.proofs.lemmas.List.Elements.{Contains-append_cases, Contains-append_left, Contains-append_right}
use Rattle.cil_base.specs.Lists.{contains_cases, contains_here, contains_none}
use Rattle.cil_base.specs.MadeLists.{contains_map, from_map}
use Rattle.cil_syntax.specs.declared.kind.Keyword.{Keyword}
use Rattle.cil_syntax.specs.declared.kind.Keyword.TheVariants as keywords
use Rattle.cil_syntax.specs.declared.kind.Kind.{Kind}
use Rattle.cil_syntax.specs.declared.kind.Kind.TheVariants as kinds
use Rattle.cil_syntax.specs.Forms.{name_in_front}
use Rattle.cil_syntax.specs.Table.{entry_of}
use Rattle.cil_syntax.specs.Terms.{Leaf, Name, Form, Terms, nil, cons}
use Rattle.cil_faults.specs.Namespaces.{Namespace}
use Rattle.cil_syntax.specs.Scopes.{ScopedWord}
use Rattle.cil_macros.specs.Item.{Item}
use Rattle.cil_macros.specs.Items.{Kept, item_at, says_as_written}
use Rattle.cil_declare.specs.declared.row.Row.{Row}
use Rattle.cil_names.specs.Declarations.{Declaration, content_of, declarations, declared_by}
use Rattle.cil_syntax.specs.declared.name_space.NameSpace.TheVariants as name_spaces
use Rattle.cil_syntax.specs.NameSpaces.{name_space}
use Rattle.cil_declare.specs.Rows.{AreRowsUpTo, IsRow, IsRowAt, behind, content_at, declaration_of, object_row}

-- ---- what statements declare

is_no_block : Kind → Bool
is_no_block kinds.Block = false
is_no_block kind = true

no_blocks : (k : Keyword) → list_all is_no_block (entry_of k).declares ≡ true
unfolding entry_of is_no_block
no_blocks keywords.Type_ = refl
no_blocks k = refl

holds_of : {X : Type 0} (p : X → Bool) (xs : List X) (x : X) → Contains xs x → list_all p xs ≡ true → p x ≡ true
holds_of p [] x c e = absurd (contains_none x c)
holds_of p (y ∷ ys) x c e =
    let (here, later) = and_parts (p y) (list_all p ys) e in
    elim (contains_cases x y ys c) [ inl is ↦ subst (λ z. p z ≡ true) is here | inr d ↦ holds_of p ys x d later ]

only_macros : (kind : Kind) → is_no_block kind ≡ true → name_space kind ≡ name_spaces.Blocks → kind ≡ kinds.Macro
unfolding is_no_block
only_macros kinds.Block p e = absurd (let f : false ≡ true = p in cc)
only_macros kinds.Macro p e = refl
only_macros kind p e = absurd cc

-- of the kinds of blocks and macros only macros are declared
pub declared_macro : (k : Keyword) (kind : Kind) → Contains (entry_of k).declares kind → name_space kind ≡ name_spaces.Blocks → kind ≡ kinds.Macro
declared_macro k kind c e = only_macros kind (holds_of is_no_block (entry_of k).declares kind c (no_blocks k)) e

pub of_macro : (i : Kept) (r : Row) → IsRow i r → name_space r.kind ≡ name_spaces.Blocks → r.kind ≡ kinds.Macro
of_macro i r is e = elim is [
  | inl object ↦ absurd (let f : name_spaces.Roles ≡ name_spaces.Blocks = sym (ap (λ (x : Row). name_space x.kind) object) ∙ e in cc)
  | inr from ↦ declared_macro (item_at i from.0).keyword r.kind from.1.kind e
]

-- ---- the row of an instance

-- a declaration by its parts
abbrev declared_as : Namespace → List ℕ → Terms ScopedWord → Kind → Declaration
declared_as space name more kind = record { kind = kind; space = space; name = name; content = content_of more }

module _ (i : Kept) (k : ℕ) (r : Row) (of : IsRowAt i k r) where
  by_name : declared_by (item_at i k) ≡ map (declared_as (item_at i k).space r.name of.named.0) (entry_of (item_at i k).keyword).declares
  by_name = ap (declarations (item_at i k).space (entry_of (item_at i k).keyword).declares) of.named.1

  row_says : declaration_of i r ≡ declared_as (item_at i k).space r.name of.named.0 r.kind
  row_says =
      let content : content_at i r.at ≡ content_of of.named.0 = ap (content_at i) of.at ∙ ap (λ args. content_of (behind args)) of.named.1 in
      λ j. record { kind = r.kind; space = of.space.is j; name = r.name; content = content j }

  -- what the row declares is declared by the instance
  pub row_declares : Contains (declared_by (item_at i k)) (declaration_of i r)
  row_declares =
      subst (λ ds. Contains ds (declaration_of i r)) (sym by_name)
      (subst (Contains (map (declared_as (item_at i k).space r.name of.named.0) (entry_of (item_at i k).keyword).declares)) (sym row_says)
      (contains_map (declared_as (item_at i k).space r.name of.named.0) (entry_of (item_at i k).keyword).declares r.kind of.kind))

  -- and it is all that the instance declares
  pub declares_row : (entry_of (item_at i k).keyword).declares ≡ r.kind ∷ [] → (d : Declaration) → Contains (declared_by (item_at i k)) d → declaration_of i r ≡ d
  declares_row one d c =
      let (kind, in_one, is) = from_map (declared_as (item_at i k).space r.name of.named.0) (entry_of (item_at i k).keyword).declares d (subst (λ ds. Contains ds d) by_name c) in
      elim (contains_cases kind r.kind [] (subst (λ ks. Contains ks kind) one in_one)) [
        | inl same ↦ row_says ∙ ap (declared_as (item_at i k).space r.name of.named.0) same ∙ is
        | inr none ↦ absurd (contains_none kind none)
      ]

-- ---- one instance after another

last_or_before : (n k : ℕ) → k < n + 1 → (k < n) ⊎ (k ≡ n)
last_or_before n k below = grind (arith, below)

-- before the first instance there is the row of object_r
pub first_rows : (i : Kept) (rows : List Row) → rows ≡ object_row ∷ [] → AreRowsUpTo i 0 rows
first_rows i rows e = subst (AreRowsUpTo i 0) (sym e) (record {
  object = contains_here object_row [];
  each = λ r c. elim (contains_cases r object_row [] c) [ inl is ↦ inl (sym is) | inr none ↦ absurd (contains_none r none) ];
  all = λ k below d c. absurd (omega (arith, below));
})

module _ (i : Kept) (n : ℕ) where
  -- an instance that declares nothing has no row
  pub no_row : (rows : List Row) → ((d : Declaration) → Contains (declared_by (item_at i n)) d → ⊥) → AreRowsUpTo i n rows → AreRowsUpTo i (n + 1) rows
  no_row rows none up = record {
    object = up.object;
    each = up.each;
    all = λ k below d c. elim (last_or_before n k (omega (arith, below))) [
      | inl before ↦ up.all k before d c
      | inr last ↦ absurd (none d (subst (λ m. Contains (declared_by (item_at i m)) d) last c))
    ];
  }

  pub one_row : (old new : List Row) (r : Row) → IsRowAt i n r → (entry_of (item_at i n).keyword).declares ≡ r.kind ∷ [] → new ≡ old ++ r ∷ [] → AreRowsUpTo i n old
      → AreRowsUpTo i (n + 1) new
  one_row old new r of one e up = subst (AreRowsUpTo i (n + 1)) (sym e) (record {
    object = Contains-append_left old (r ∷ []) object_row up.object;
    each = λ x c. elim (Contains-append_cases old (r ∷ []) x c) [
      | inl before ↦ up.each x before
      | inr last ↦ elim (contains_cases x r [] last) [ inl is ↦ inr (n, subst (IsRowAt i n) is of) | inr none ↦ absurd (contains_none x none) ]
    ];
    all = λ k below d c. elim (last_or_before n k (omega (arith, below))) [
      | inl before ↦ let (x, in_old, at, is) = up.all k before d c in (x, Contains-append_left old (r ∷ []) x in_old, at, is)
      | inr last ↦ (
        r,
        Contains-append_right old (r ∷ []) r (contains_here r []),
        subst (λ m. IsRowAt i m r) (sym last) of,
        declares_row i n r of one d (subst (λ m. Contains (declared_by (item_at i m)) d) last c),
      )
    ];
  })
