-- Namespaces and their numbers: each number has one namespace, and each namespace at most one number.
use Rattle.std.proofs.Common.{◌≡◌, ℕ, zero, suc, ◌+◌, ◌<◌, ◌≤◌, List, [], ◌∷◌, ◌++◌, length, get_or, refl, sym, ◌∙◌, ap, arith}
use Rattle.std.specs.Prelude.{Some, slice_get}
use Rattle.std.proofs.lemmas.List.{get_or_append_left, length-append}
use Rattle.std.proofs.Math.Seq.{get_or-append_seam}
use Rattle.cil_base.specs.Places.{in_range, some_at, some_same, cons_head, cons_tail}
use Rattle.cil_faults.specs.Namespaces.{Namespace}
use Rattle.cil_blocks.specs.declared.namespaces.Space.{Space}
use Rattle.cil_blocks.specs.Namespaces.{AreNamespaces, HasNoNumber, IsGrown, IsNumber, space_at, spaces_from}

-- ---- the view

abbrev in_next : List Namespace → Space → Namespace
in_next done s = s.name ∷ get_or done s.outer []

longer : (done : List Namespace) (n : Namespace) → length (done ++ n ∷ []) ≡ suc (length done)
longer done n = length-append done (n ∷ []) ∙ (let e : length done + 1 ≡ suc (length done) = omega arith in e)

-- what stands in front stays
front : (ss : List Space) (done : List Namespace) (k : ℕ) → k < length done → get_or (spaces_from done ss) k [] ≡ get_or done k []
unfolding spaces_from
front [] done k h = refl
front (s ∷ ss) done k h =
    front ss (done ++ in_next done s ∷ []) k (let e = longer done (in_next done s) in omega (arith, e, h))
    ∙ get_or_append_left done (in_next done s ∷ []) [] k h

step : (ss : List Space) (done : List Namespace) (i m : ℕ) (s : Space) → slice_get ss i ≡ Some s → m ≡ length done + i → s.outer < m
    → get_or (spaces_from done ss) m [] ≡ s.name ∷ get_or (spaces_from done ss) s.outer []
unfolding spaces_from
step [] done i m s at e h = absurd (let w = in_range [] i s at in omega (arith, w))
step (t ∷ ss) done zero m s at e h =
    let same : t ≡ s = some_same t s at in
    let x = in_next done t in
    ap (λ k. get_or (spaces_from (done ++ x ∷ []) ss) k []) (let f : m ≡ length done = omega (arith, e) in f)
    ∙ front ss (done ++ x ∷ []) (length done) (let f = longer done x in omega (arith, f))
    ∙ get_or-append_seam done x [] []
    ∙ ap (in_next done) same
    ∙ ap (λ n. s.name ∷ n) (sym (front (t ∷ ss) done s.outer (omega (arith, e, h))))
step (t ∷ ss) done (suc i) m s at e h =
    let x = in_next done t in
    let l = longer done x in
    step ss (done ++ x ∷ []) i m s at (omega (arith, e, l)) h

joined : (ss more : List Space) (done : List Namespace) → spaces_from done (ss ++ more) ≡ spaces_from (spaces_from done ss) more
unfolding spaces_from
joined [] more done = refl
joined (s ∷ ss) more done = joined ss more (done ++ in_next done s ∷ [])

as_many : (ss : List Space) (done : List Namespace) → length (spaces_from done ss) ≡ length done + length ss
unfolding spaces_from
as_many [] done = omega arith
as_many (s ∷ ss) done =
    let rest = as_many ss (done ++ in_next done s ∷ []) in
    let l = longer done (in_next done s) in
    omega (arith, rest, l)

-- a number keeps its namespace when more are added
pub stays : (old new : List Space) (k : ℕ) → IsGrown old new → k ≤ length old → space_at new k ≡ space_at old k
unfolding space_at
stays old new k (more, e) h =
    ap (λ ss. get_or (spaces_from ([] ∷ []) ss) k []) e ∙ ap (λ ns. get_or ns k []) (joined old more ([] ∷ []))
    ∙ front more (spaces_from ([] ∷ []) old) k (let l = as_many old ([] ∷ []) in omega (arith, l, h))

pub no_shorter : (old new : List Space) → IsGrown old new → length old ≤ length new
no_shorter old new (more, e) = let l = ap length e ∙ length-append old more in omega (arith, l)

pub number_stays : (old new : List Space) (n : Namespace) (k : ℕ) → IsGrown old new → IsNumber old n k → IsNumber new n k
number_stays old new n k g is = record {
  within = let l = no_shorter old new g in let w = is.within in omega (arith, l, w);
  is = stays old new k g is.within ∙ is.is;
}

-- ---- lists

never_empty : (x : List ℕ) (n : Namespace) → x ∷ n ≡ [] → ⊥
never_empty x n e = cc

-- ---- numbers

pub global_at : (ss : List Space) → space_at ss 0 ≡ []
unfolding space_at
global_at ss = front ss ([] ∷ []) 0 (omega arith)

module _ (ss : List Space) (are : AreNamespaces ss) where
  -- the namespace of the next number
  pub next_at : (i : ℕ) (s : Space) → slice_get ss i ≡ Some s → space_at ss (suc i) ≡ s.name ∷ space_at ss s.outer
  unfolding space_at
  next_at i s at = step ss ([] ∷ []) i (suc i) s at (omega arith) (let b = are.behind i s at in omega (arith, b))

  pub next_of : (i k : ℕ) (s : Space) → slice_get ss i ≡ Some s → k ≡ i + 1 → space_at ss k ≡ s.name ∷ space_at ss s.outer
  next_of i k s at e = ap (space_at ss) (let f : k ≡ suc i = omega (arith, e) in f) ∙ next_at i s at

  pub record IsInner (n : Namespace) (i : ℕ) : Type 0 where
    pub space : Space
    pub at : slice_get ss i ≡ Some space
    pub is : space.name ∷ space_at ss space.outer ≡ n
    pub behind : space.outer ≤ i

  -- a number that is not 0 is that of an inner namespace
  pub inner_of : (n : Namespace) (i : ℕ) → IsNumber ss n (suc i) → IsInner n i
  inner_of n i is =
      let s = some_at ss i (let w = is.within in omega (arith, w)) in
      record { space = s.0; at = s.1; is = sym (next_at i s.0 s.1) ∙ is.is; behind = are.behind i s.0 s.1 }

  -- two numbers of one namespace are one
  pub same_number : (n : Namespace) (i j : ℕ) → IsNumber ss n i → IsNumber ss n j → i ≡ j
  same_number [] zero zero p q = refl
  same_number [] (suc i) j p q = let a = inner_of [] i p in absurd (never_empty a.space.name (space_at ss a.space.outer) a.is)
  same_number [] zero (suc j) p q = let a = inner_of [] j q in absurd (never_empty a.space.name (space_at ss a.space.outer) a.is)
  same_number (x ∷ n) zero j p q = absurd (never_empty x n (sym p.is ∙ global_at ss))
  same_number (x ∷ n) (suc i) zero p q = absurd (never_empty x n (sym q.is ∙ global_at ss))
  same_number (x ∷ n) (suc i) (suc j) p q =
      let a = inner_of (x ∷ n) i p in
      let b = inner_of (x ∷ n) j q in
      let one = p.within in
      let other = q.within in
      let low = a.behind in
      let high = b.behind in
      let outer = same_number n a.space.outer b.space.outer
      (record { within = omega (arith, low, one); is = cons_tail a.space.name x (space_at ss a.space.outer) n a.is })
      (record { within = omega (arith, high, other); is = cons_tail b.space.name x (space_at ss b.space.outer) n b.is }) in
      ap suc (are.once i j a.space b.space a.at b.at outer
      (cons_head a.space.name x (space_at ss a.space.outer) n a.is ∙ sym (cons_head b.space.name x (space_at ss b.space.outer) n b.is)))

  -- numbers of one namespace are one, and so different numbers are of different namespaces
  pub one_to_one : (i j : ℕ) → i ≤ length ss → j ≤ length ss → space_at ss i ≡ space_at ss j → i ≡ j
  one_to_one i j h l e = same_number (space_at ss j) i j (record { within = h; is = e }) (record { within = l; is = refl })

  -- the namespace of a name in another one, if it is not there
  pub child_missing : (outer : ℕ) (name : List ℕ) → outer ≤ length ss
      → ((i : ℕ) (s : Space) → slice_get ss i ≡ Some s → s.outer ≡ outer → s.name ≡ name → ⊥) → HasNoNumber ss (name ∷ space_at ss outer)
  child_missing outer name within none zero p = never_empty name (space_at ss outer) (sym p.is ∙ global_at ss)
  child_missing outer name within none (suc i) p =
      let a = inner_of (name ∷ space_at ss outer) i p in
      let most = p.within in
      let low = a.behind in
      none i a.space a.at
      (one_to_one a.space.outer outer (omega (arith, most, low)) within (cons_tail a.space.name name (space_at ss a.space.outer) (space_at ss outer) a.is))
      (cons_head a.space.name name (space_at ss a.space.outer) (space_at ss outer) a.is)

-- ---- one more namespace

abbrev pub HasNone : List Space → ℕ → List ℕ → Type 0
HasNone ss outer name = (i : ℕ) (s : Space) → slice_get ss i ≡ Some s → s.outer ≡ outer → s.name ≡ name → ⊥
