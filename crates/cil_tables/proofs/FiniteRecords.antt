-- The records of tables are finite: links, and the cases of rules.
use Rattle.std.specs.Prelude.{Contains, Option, None, Some}
use Rattle.std.proofs.Common.{◌≡◌, ℕ, Bool, true, List, refl, sym, ap, subst, inl, inr}
use Rattle.std.proofs.lemmas.Option.{none-some, same_Some}
use Rattle.cil_base.specs.Decided.{Decided, decided_both, decided_same, same_bool}
use Rattle.cil_syntax.specs.declared.kind.Keyword.{Keyword}
use Rattle.cil_syntax.specs.declared.kind.Kind.{Kind}
use Rattle.cil_syntax.specs.declared.kind.Kind.TheVariants as kinds
use Rattle.cil_syntax.specs.declared.term.Op.TheVariants as ops
use Rattle.cil_syntax.specs.declared.term.Op.{Op}
use Rattle.cil_syntax.specs.Terms.{Term, Leaf, Name, Form, Terms, nil, cons}
use Rattle.cil_tables.specs.declared.tables.Link.{Link}
use Rattle.cil_blocks.specs.Contents.{Branch}
use Rattle.cil_neverallow.specs.conditions.Token.{Token}
use Rattle.cil_neverallow.specs.conditions.Token.TheVariants as tokens
use Rattle.cil_neverallow.specs.conditions.Conditions.{FormNamesBooleans, IsSaid, NamesBooleans, op_of, turns}
use Rattle.cil_neverallow.specs.rules.Records.{Case, HasTarget, IsCase, spelled}
use Rattle.cil_tables.specs.Links.{IsLink}
use Rattle.cil_known.specs.Known.{IsNumbered}
use Rattle.cil_syntax.proofs.DecidedEquality.{keyword_is, op_is}
use Rattle.cil_names.specs.Declarations.{Symbol, name_of}
use Rattle.cil_macros.specs.Item.{Item, OptSet, is_enabled}
use Rattle.cil_syntax.specs.Scopes.{ScopedWord}
use Rattle.cil_known.specs.Members.{StandsFor}
use Rattle.cil_classes.specs.Given.{HasPair}
use Rattle.cil_tables.proofs.Finite.{Finite, decided_some, finite_all, finite_given, finite_list, finite_one, finite_same}
use Rattle.cil_tables.proofs.FiniteFaults.{finite_permissions}
use Rattle.cil_tables.proofs.NoGifts.{HaveFlatKeywords}
use Rattle.cil_tables.proofs.FinitePolicy.{Three, finite_classes, finite_numbers, finite_stands, finite_three, finite_two}

module _ (xs : List Item) (flat : HaveFlatKeywords xs) (s : OptSet) (keyword : Keyword) where
  -- an enabled statement with this first word
  abbrev IsOn : Item → Type 0
  IsOn x = (is_enabled s x ≡ true) × (x.keyword ≡ keyword)

  decided_on : (x : Item) → Decided (IsOn x)
  decided_on x = decided_both (same_bool (is_enabled s x) true) (keyword_is x.keyword keyword)

  -- ---- links

  module _ (holder_kind held_kind : Kind) (holders helds : List (List ℕ)) where
    link_of : ℕ → ℕ → Link
    link_of m n = record { holder = m; held = n }

    abbrev Numbers : Symbol → Symbol → Link → Type 0
    Numbers t u l = (m : ℕ) × IsNumbered holders t m × ((n : ℕ) × IsNumbered helds u n × (link_of m n ≡ l))

    finite_pair_numbers : (t u : Symbol) → Finite (Numbers t u)
    finite_pair_numbers t u =
        finite_all (λ m l. (n : ℕ) × IsNumbered helds u n × (link_of m n ≡ l)) (IsNumbered holders t) (finite_numbers holders (name_of t))
        (λ m e. finite_all (λ n l. link_of m n ≡ l) (IsNumbered helds u) (finite_numbers helds (name_of u)) (λ n f. finite_one (link_of m n)))

    abbrev Joins : ScopedWord × ScopedWord → Link → Type 0
    Joins p l = (t : Symbol) × StandsFor xs s holder_kind p.0 t × ((u : Symbol) × StandsFor xs s held_kind p.1 u × Numbers t u l)

    finite_joins : (p : ScopedWord × ScopedWord) → Finite (Joins p)
    finite_joins p =
        finite_all (λ t l. (u : Symbol) × StandsFor xs s held_kind p.1 u × Numbers t u l) (StandsFor xs s holder_kind p.0) (finite_stands xs flat s holder_kind p.0)
        (λ t st. finite_all (λ u l. Numbers t u l) (StandsFor xs s held_kind p.1) (finite_stands xs flat s held_kind p.1) (λ u su. finite_pair_numbers t u))

    abbrev Links : Item → Link → Type 0
    Links x l = IsOn x × ((p : ScopedWord × ScopedWord) × (x.args ≡ cons (Leaf p.0) (cons (Leaf p.1) nil)) × Joins p l)

    finite_links_of : (x : Item) → Finite (Links x)
    finite_links_of x =
        finite_given (IsOn x) (λ l. (p : ScopedWord × ScopedWord) × (x.args ≡ cons (Leaf p.0) (cons (Leaf p.1) nil)) × Joins p l) (decided_on x)
        (finite_all Joins (λ p. x.args ≡ cons (Leaf p.0) (cons (Leaf p.1) nil)) (finite_two x.args) (λ p e. finite_joins p))

    pub finite_links : Finite (IsLink xs s keyword holder_kind held_kind holders helds)
    unfolding link_of
    finite_links =
        finite_same (λ l. (x : Item) × Contains xs x × Links x l) (IsLink xs s keyword holder_kind held_kind holders helds)
        (λ l h. let x = h.0 in let j = h.2.1 in let t = j.2 in let u = t.2 in let m = u.2 in let n = m.2 in record {
          holder = t.0;
          held = u.0;
          joined = record {
            holder_word = j.0.0;
            held_word = j.0.1;
            statement = record { item = x; is_item = h.1; enabled = h.2.0.0; is_keyword = h.2.0.1; says = j.1 };
            has_holder = t.1;
            has_held = u.1;
          };
          holder_number = subst (λ k. IsNumbered holders t.0 k) (ap (λ (k : Link). k.holder) n.2) m.1;
          held_number = subst (λ k. IsNumbered helds u.0 k) (ap (λ (k : Link). k.held) n.2) n.1;
        })
        (λ l is. let j = is.joined in let a = j.statement in (
          a.item,
          a.is_item,
          (
            (a.enabled, a.is_keyword),
            (
              (j.holder_word, j.held_word),
              a.says,
              (is.holder, j.has_holder, (is.held, j.has_held, (l.holder, is.holder_number, (l.held, is.held_number, refl)))),
            ),
          ),
        ))
        (finite_all Links (Contains xs) (finite_list xs) (λ x c. finite_links_of x))

  -- ---- cases

  decided_target : (t : Term ScopedWord) → Decided (HasTarget xs s t)
  decided_target (Leaf w) = decided_some (StandsFor xs s kinds.Type_ w) (finite_stands xs flat s kinds.Type_ w)
  decided_target (Name at bytes) = inr (λ h. h)
  decided_target (Form at op parts) = op_is op ops.Itself

  -- whether each word of a condition names a boolean

  no_token : (op : Op) → (op ≡ ops.And → ⊥) → (op ≡ ops.Or → ⊥) → (op ≡ ops.Xor → ⊥) → (op ≡ ops.Equal → ⊥) → (op ≡ ops.Unequal → ⊥) → (t : Token) → op_of t ≡ Some op → ⊥
  no_token op a o x e u tokens.And is = a (sym (same_Some _ _ is))
  no_token op a o x e u tokens.Or is = o (sym (same_Some _ _ is))
  no_token op a o x e u tokens.Xor is = x (sym (same_Some _ _ is))
  no_token op a o x e u tokens.Equal is = e (sym (same_Some _ _ is))
  no_token op a o x e u tokens.Unequal is = u (sym (same_Some _ _ is))
  no_token op a o x e u t is = absurd (none-some _ is)

  decided_token : (op : Op) → Decided ((t : Token) × (op_of t ≡ Some op))
  decided_token op = elim (op_is op ops.And) [
    | inl is ↦ inl (tokens.And, ap Some (sym is))
    | inr a ↦ elim (op_is op ops.Or) [
      | inl is ↦ inl (tokens.Or, ap Some (sym is))
      | inr o ↦ elim (op_is op ops.Xor) [
        | inl is ↦ inl (tokens.Xor, ap Some (sym is))
        | inr x ↦ elim (op_is op ops.Equal) [
          | inl is ↦ inl (tokens.Equal, ap Some (sym is))
          | inr e ↦ elim (op_is op ops.Unequal) [
            | inl is ↦ inl (tokens.Unequal, ap Some (sym is))
            | inr u ↦ inr (λ h. no_token op a o x e u h.0 h.1)
          ]
        ]
      ]
    ]
  ]

  decided_turn : (o : Option Bool) → Decided ((turn : Bool) × (o ≡ Some turn))
  decided_turn None = inr (λ h. none-some _ h.1)
  decided_turn (Some turn) = inl (turn, refl)

  mutual
    decided_names : (t : Term ScopedWord) → Decided (NamesBooleans xs s t)
    decided_names (Leaf w) = decided_some (StandsFor xs s kinds.Boolean w) (finite_stands xs flat s kinds.Boolean w)
    decided_names (Name at bytes) = inr (λ h. h)
    decided_names (Form at op parts) = decided_parts op parts

    decided_parts : (op : Op) (ts : Terms ScopedWord) → Decided (FormNamesBooleans xs s op ts)
    decided_parts op nil = inr (λ h. h)
    decided_parts op (cons a nil) =
        decided_same (λ h. (h.0.0, h.0.1, h.1)) (λ h. ((h.0, h.1), h.2)) (decided_both (decided_turn (turns op)) (decided_names a))
    decided_parts op (cons a (cons b nil)) =
        decided_same (λ h. (h.0.0, h.0.1, h.1.0, h.1.1)) (λ h. ((h.0, h.1), (h.2, h.3)))
        (decided_both (decided_token op) (decided_both (decided_names a) (decided_names b)))
    decided_parts op (cons a (cons b (cons c more))) = inr (λ h. h)

  decided_said : (b : Option Branch) → Decided (IsSaid xs s b)
  decided_said None = inl tt
  decided_said (Some b) = decided_names b.0

  case_of : Option Branch → Three → Symbol → Case
  case_of b q c = record { branch = b; source = q.0; target = q.1; class_permission = q.2; class_ = c }

  abbrev Reaches : Three → Type 0
  Reaches q = ((t : Symbol) × StandsFor xs s kinds.Type_ q.0 t) × HasTarget xs s q.1

  abbrev Cases : Item → Case → Type 0
  Cases x k =
      (IsOn x × IsSaid xs s x.branch) × ((q : Three) × (x.args ≡ cons (Leaf q.0) (cons q.1 (cons q.2 nil)))
      × (Reaches q × ((c : Symbol) × ((p : List ℕ) × HasPair xs s q.2 c p) × (case_of x.branch q c ≡ k))))

  finite_cases_of : (x : Item) → Finite (Cases x)
  finite_cases_of x =
      finite_given (IsOn x × IsSaid xs s x.branch) _ (decided_both (decided_on x) (decided_said x.branch))
      (finite_all (λ q k. Reaches q × ((c : Symbol) × ((p : List ℕ) × HasPair xs s q.2 c p) × (case_of x.branch q c ≡ k)))
      (λ q. x.args ≡ cons (Leaf q.0) (cons q.1 (cons q.2 nil))) (finite_three x.args)
      (λ q e. finite_given (Reaches q) (λ k. (c : Symbol) × ((p : List ℕ) × HasPair xs s q.2 c p) × (case_of x.branch q c ≡ k))
      (decided_both (decided_some (StandsFor xs s kinds.Type_ q.0) (finite_stands xs flat s kinds.Type_ q.0)) (decided_target q.1))
      (finite_all (λ c k. case_of x.branch q c ≡ k) (λ c. (p : List ℕ) × HasPair xs s q.2 c p) (finite_classes xs flat s (finite_permissions xs) q.2) (λ c h. finite_one (case_of x.branch q c)))))

  same_case : (k : Case) (b : Option Branch) → k.branch ≡ b → case_of b (k.source, k.target, k.class_permission) k.class_ ≡ k
  unfolding case_of
  same_case k b e = λ i. record { branch = sym e i; source = k.source; target = k.target; class_permission = k.class_permission; class_ = k.class_ }

  pub finite_cases : (booleans : List (List ℕ)) → Finite (IsCase xs s keyword (spelled booleans))
  unfolding case_of
  finite_cases booleans =
      finite_same (λ k. (x : Item) × Contains xs x × Cases x k) (IsCase xs s keyword (spelled booleans))
      (λ k h. let q = h.2.1 in subst (IsCase xs s keyword (spelled booleans)) q.2.1.2 (record {
        item = h.0;
        is_item = h.1;
        by = record {
          enabled = h.2.0.0.0;
          is_keyword = h.2.0.0.1;
          branch = refl;
          taken = h.2.0.1;
          says = q.1;
          source = q.2.0.0;
          target = q.2.0.1;
          permission = q.2.1.1;
        };
      }))
      (λ k is. let a = is.by in (
        is.item,
        is.is_item,
        (
          ((a.enabled, a.is_keyword), subst (IsSaid xs s) a.branch a.taken),
          ((k.source, k.target, k.class_permission), a.says, ((a.source, a.target), (k.class_, a.permission, same_case k is.item.branch a.branch))),
        ),
      ))
      (finite_all Cases (Contains xs) (finite_list xs) (λ x c. finite_cases_of x))
