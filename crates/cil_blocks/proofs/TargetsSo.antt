-- What the search for a word's blocks finds are the targets of its statement.
use Rattle.std.proofs.Common.{◌≡◌, ◌⊎◌, ℕ, Bool, true, false, ◌&&◌, ◌||◌, if◌then◌else◌, List, [], ◌∷◌, ◌++◌, length, map, refl, sym, ◌∙◌, ap, subst, inl, inr, append-nil}
use Rattle.std.specs.Prelude.{Contains, Option, Some, None, find}
use Rattle.std.specs.Cmp.Lexicographic.{same_text}
use Rattle.std.specs.List.{list_any}
use Rattle.cil_base.specs.Lists.{contains_here, contains_later, contains_cases, contains_none}
use Rattle.cil_syntax.specs.declared.term.Word.{Word}
use Rattle.cil_syntax.specs.Forms.{word_in_front}
use Rattle.cil_syntax.specs.Scopes.{Asked, IsTaken, asked, names_backwards, same_space, scope_at, spaces_asked}
use Rattle.cil_faults.specs.Namespaces.{Namespace}
use Rattle.cil_syntax.specs.Spelling.{same_bytes}
use Rattle.cil_syntax.specs.Terms.{Leaf, Name, Form, Terms, nil, cons}
use Rattle.cil_syntax.specs.Written.{Written}
use Rattle.cil_syntax.proofs.AskedLemmas.{is_global, is_parted}
use Rattle.cil_blocks.specs.Contents.{block_space, first_word, has_block, is_block, is_block_named, name_of}
use Rattle.cil_blocks.specs.Entries.{AreBelow, nothing, statement_at}
use Rattle.cil_blocks.specs.Named.{AreBlocks, AreFirstNamed, AreOfName, AreTargets, HasNoneNamed, asked_space, space_in}
use Rattle.cil_base.specs.MadeLists.{contains_map, from_map}
use Rattle.cil_base.specs.Places.{get_at, get_contains, get_so, is_there, none_some, some_same, cons_head, cons_tail}
use Rattle.cil_blocks.proofs.NameLemmas.{block_space_in}
use Rattle.cil_blocks.proofs.OneTarget.{same_spaces, three}
use Rattle.cil_blocks.proofs.ScopeLemmas.{scope_global}
use Rattle.cil_blocks.proofs.StandingWalk.{text_true}

-- ---- lists

any_step : (b c : Bool) → c ≡ true → (b || c) ≡ true
any_step true c e = refl
any_step false c e = e

any_there : {X : Type 0} (p : X → Bool) (xs : List X) (x : X) → Contains xs x → p x ≡ true → list_any p xs ≡ true
any_there p [] x c e = absurd (contains_none x c)
any_there p (y ∷ ys) x c e =
    elim (contains_cases x y ys c) [
      | inl s ↦ ap (λ b. b || list_any p ys) (ap p s ∙ e)
      | inr d ↦ any_step (p y) (list_any p ys) (any_there p ys x d e)
    ]

any_by : {X : Type 0} (p : X → Bool) (y : X) (ys : List X) (b : Bool) → p y ≡ b → (b || list_any p ys) ≡ true
    → (list_any p ys ≡ true → (x : X) × Contains ys x × (p x ≡ true)) → (x : X) × Contains (y ∷ ys) x × (p x ≡ true)
any_by p y ys true is e rest = (y, contains_here y ys, is)
any_by p y ys false is e rest = let r = rest e in (r.0, contains_later r.0 y ys r.1, r.2)

any_from : {X : Type 0} (p : X → Bool) (xs : List X) → list_any p xs ≡ true → (x : X) × Contains xs x × (p x ≡ true)
any_from p [] e = absurd (let f : false ≡ true = e in cc)
any_from p (y ∷ ys) e = any_by p y ys (p y) refl e (λ r. any_from p ys r)

same_itself : (x : List ℕ) → same_bytes x x ≡ true
same_itself x = text_true x x (same_bytes x x) refl refl

pub space_itself : (n : Namespace) → same_space n n ≡ true
space_itself [] = refl
space_itself (x ∷ n) = both (same_bytes x x) (same_space n n) (same_itself x) (space_itself n) where
  both : (a b : Bool) → a ≡ true → b ≡ true → (a && b) ≡ true
  both true b e f = f
  both false b e f = absurd (let g : false ≡ true = e in cc)

all_three : (a b c : Bool) → a ≡ true → b ≡ true → c ≡ true → (a && b && c) ≡ true
all_three true true c e f g = g
all_three true false c e f g = absurd (let h : false ≡ true = f in cc)
all_three false b c e f g = absurd (let h : false ≡ true = e in cc)

-- ---- words in front

pub no_word : (args : Terms Word) → word_in_front args ≡ None → first_word args ≡ None
no_word nil e = refl
no_word (cons (Leaf w) ts) e = absurd (none_some (w, ts) (sym e))
no_word (cons (Name at name) ts) e = refl
no_word (cons (Form at op parts) ts) e = refl

pub some_word : (args more : Terms Word) (w : Word) → args ≡ cons (Leaf w) more → first_word args ≡ Some w
some_word args more w e = ap first_word e

module _ (ws : List Written) where
  pub no_targets : (n : ℕ) → first_word (statement_at ws n).statement.args ≡ None → AreTargets ws n []
  no_targets n e b = ((λ t. absurd (none_some t.word (sym e ∙ t.is_word))), (λ c. absurd (contains_none b c)))

module _ (ws : List Written) (numbers blocks : List ℕ) (are_blocks : AreBlocks ws numbers blocks) where
  -- ---- a block of a name, by its number

  named_true : (j : ℕ) (name : List ℕ) (m : Namespace) → Contains blocks j → space_in ws (Some j) ≡ name ∷ m → is_block_named name m (statement_at ws j) ≡ true
  named_true j name m c e =
      let w = statement_at ws j in
      let kind = ((are_blocks.members j).0 c).1 in
      let full : name_of w ∷ w.context.space ≡ name ∷ m = sym (block_space_in ws j kind) ∙ e in
      all_three (is_block w.statement.keyword) (same_bytes (name_of w) name) (same_space w.context.space m) kind
      (subst (λ x. same_bytes (name_of w) x ≡ true) (cons_head (name_of w) name w.context.space m full) (same_itself (name_of w)))
      (subst (λ x. same_space w.context.space x ≡ true) (cons_tail (name_of w) name w.context.space m full) (space_itself w.context.space))

  block_there : (j : ℕ) → Contains blocks j → Contains ws (statement_at ws j)
  block_there j c = get_contains ws j (statement_at ws j) (is_there ws j nothing ((are_blocks.members j).0 c).0)

  named_from : (w : Written) (name : List ℕ) (m : Namespace) → Contains ws w → is_block_named name m w ≡ true
      → (j : ℕ) × (statement_at ws j ≡ w) × Contains blocks j × (space_in ws (Some j) ≡ name ∷ m)
  named_from w name m c e =
      let g = get_at ws w c in
      let same : statement_at ws g.0 ≡ w = get_so ws g.0 w nothing g.2 in
      let h = three (is_block w.statement.keyword) (same_bytes (name_of w) name) (same_space w.context.space m) e in
      let kind : is_block (statement_at ws g.0).statement.keyword ≡ true = subst (λ (x : Written). is_block x.statement.keyword ≡ true) (sym same) h.0 in
      let own : name_of w ≡ name = same_text (name_of w) name (sym h.1) in
      let space : w.context.space ≡ m = same_spaces w.context.space m h.2 in (
        g.0,
        same,
        (are_blocks.members g.0).1 (g.1, kind),
        block_space_in ws g.0 kind ∙ (λ i. name_of (same i) ∷ (same i).context.space) ∙ (λ i. own i ∷ space i),
      )

  has_some : (name : List ℕ) (m : Namespace) (j : ℕ) → Contains blocks j → space_in ws (Some j) ≡ name ∷ m → has_block ws name m ≡ true
  unfolding has_block
  has_some name m j c e = any_there (is_block_named name m) ws (statement_at ws j) (block_there j c) (named_true j name m c e)

  has_none_by : (name : List ℕ) (m : Namespace) (b : Bool) → has_block ws name m ≡ b → HasNoneNamed ws blocks (name ∷ m) → b ≡ false
  unfolding has_block
  has_none_by name m false e none = refl
  has_none_by name m true e none =
      let w = any_from (is_block_named name m) ws e in
      let j = named_from w.0 name m w.1 w.2 in
      absurd (none j.0 j.2 j.3)

  has_none : (name : List ℕ) (m : Namespace) → HasNoneNamed ws blocks (name ∷ m) → has_block ws name m ≡ false
  has_none name m none = has_none_by name m (has_block ws name m) refl none

  -- ---- the namespace in which a word is found

  abbrev IsSpaceOf : List ℕ → List ℕ → Option Namespace → Type 0
  IsSpaceOf name found o = ((o ≡ None) × (found ≡ [])) ⊎ ((m : Namespace) × (o ≡ Some m) × AreOfName ws blocks (name ∷ m) found)

  some_member : (xs : List ℕ) → (xs ≡ [] → ⊥) → (x : ℕ) × Contains xs x
  some_member [] h = absurd (h refl)
  some_member (x ∷ xs) h = (x, contains_here x xs)

  searched : (name : List ℕ) (inner : Namespace) (scope : List Namespace) (found : List ℕ) → AreFirstNamed ws blocks (name ∷ inner) scope found
      → IsSpaceOf name found (find (has_block ws name) (map (λ n. inner ++ n) scope))
  searched name inner [] found e = inl (refl, e)
  searched name inner (n ∷ scope) found (inl h) =
      let x = some_member found h.0 in
      let b = (h.1 x.0).0 x.1 in
      inr (inner ++ n, ap (λ t. if t then Some (inner ++ n) else find (has_block ws name) (map (λ m. inner ++ m) scope)) (has_some name (inner ++ n) x.0 b.0 b.1), h.1)
  searched name inner (n ∷ scope) found (inr h) =
      subst (IsSpaceOf name found)
      (sym (ap (λ t. if t then Some (inner ++ n) else find (has_block ws name) (map (λ m. inner ++ m) scope)) (has_none name (inner ++ n) h.0)))
      (searched name inner scope found h.1)

  spaces_so : (a : Asked) (here : Namespace) (global : Bool) → a.global ≡ global
      → spaces_asked a (scope_at here) ≡ map (λ n. a.inner ++ n) (scope_at (asked_space global here))
  spaces_so a here true e =
      ap (λ b. if b then a.inner ∷ [] else map (λ n. a.inner ++ n) (scope_at here)) e ∙ ap (λ n. n ∷ []) (sym (append-nil a.inner))
      ∙ ap (map (λ n. a.inner ++ n)) (sym scope_global)
  spaces_so a here false e = ap (λ b. if b then a.inner ∷ [] else map (λ n. a.inner ++ n) (scope_at here)) e

  space_found : (here : Namespace) (word : Word) (global : Bool) (path found : List ℕ) → IsTaken word.bytes global path
      → AreFirstNamed ws blocks (names_backwards path) (scope_at (asked_space global here)) found → IsSpaceOf (asked word.bytes).name found (block_space ws here word)
  unfolding block_space
  space_found here word global path found t f =
      subst (IsSpaceOf (asked word.bytes).name found) (ap (find (has_block ws (asked word.bytes).name)) (sym (spaces_so (asked word.bytes) here global (is_global word.bytes global path t))))
      (searched (asked word.bytes).name (asked word.bytes).inner (scope_at (asked_space global here)) found
      (subst (λ ns. AreFirstNamed ws blocks ns (scope_at (asked_space global here)) found) (is_parted word.bytes global path t) f))

  -- ---- the targets

  by_space : (n : ℕ) (word : Word) (found : List ℕ) → first_word (statement_at ws n).statement.args ≡ Some word
      → IsSpaceOf (asked word.bytes).name found (block_space ws (statement_at ws n).context.space word) → AreTargets ws n found
  by_space n word found e (inl h) b = (
    (λ t. absurd (none_some t.space (sym h.0 ∙ sym (ap (block_space ws (statement_at ws n).context.space) (some_same t.word word (sym t.is_word ∙ e))) ∙ t.found))),
    (λ c. absurd (contains_none b (subst (λ xs. Contains (map (statement_at ws) xs) b) h.1 c))),
  )
  by_space n word found e (inr h) b = (
    (λ t.
        let same : t.word ≡ word = some_same t.word word (sym t.is_word ∙ e) in
        let space : t.space ≡ h.0 = some_same t.space h.0 (sym t.found ∙ ap (block_space ws (statement_at ws n).context.space) same ∙ h.1) in
        let named : is_block_named (asked word.bytes).name h.0 b ≡ true =
        (λ i. is_block_named (asked (sym same i).bytes).name (sym space i) b) ∙ t.named in
        let j = named_from b (asked word.bytes).name h.0 t.is_written named in
        subst (Contains (map (statement_at ws) found)) j.1 (contains_map (statement_at ws) found j.0 ((h.2 j.0).1 (j.2, j.3)))),
    (λ c.
        let back = from_map (statement_at ws) found b c in
        let j = (h.2 back.0).0 back.1 in
        record {
          word = word;
          is_word = e;
          space = h.0;
          found = h.1;
          is_written = subst (Contains ws) back.2 (block_there back.0 j.0);
          named = subst (λ x. is_block_named (asked word.bytes).name h.0 x ≡ true) back.2 (named_true back.0 (asked word.bytes).name h.0 j.0 j.1);
        }),
  )

  pub the_targets : (n : ℕ) (word : Word) (global : Bool) (path found : List ℕ) (space : Namespace) → first_word (statement_at ws n).statement.args ≡ Some word
      → IsTaken word.bytes global path → space ≡ asked_space global (statement_at ws n).context.space → AreFirstNamed ws blocks (names_backwards path) (scope_at space) found
      → AreTargets ws n found
  the_targets n word global path found space e t s f =
      by_space n word found e
      (space_found (statement_at ws n).context.space word global path found t (subst (λ m. AreFirstNamed ws blocks (names_backwards path) (scope_at m) found) s f))

  -- and they are among the blocks
  first_among : (names : List (List ℕ)) (scope : List Namespace) (found : List ℕ) → AreFirstNamed ws blocks names scope found → (k : ℕ) → Contains found k → Contains blocks k
  first_among names [] found e k c = absurd (contains_none k (subst (λ xs. Contains xs k) e c))
  first_among names (n ∷ scope) found (inl h) k c = ((h.1 k).0 c).0
  first_among names (n ∷ scope) found (inr h) k c = first_among names scope found h.1 k c

  pub first_below : (names : List (List ℕ)) (scope : List Namespace) (found : List ℕ) → AreFirstNamed ws blocks names scope found → AreBelow (length ws) found
  first_below names scope found f k c = ((are_blocks.members k).0 (first_among names scope found f k c)).0
