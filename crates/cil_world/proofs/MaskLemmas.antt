-- The names of a mask, bit by bit.
use Rattle.std.specs.Prelude.{Contains}
use Rattle.std.proofs.Common.{◌≡◌, ℕ, zero, suc, ◌+◌, ◌<◌, ◌≤◌, inl, inr, List, [], ◌∷◌, ◌++◌, refl, sym, ◌∙◌, ap, subst, arith, Bool, true, false}
use Rattle.std.specs.List.{AllByRecursion}
use Rattle.std.specs.List.Sorted.{IsStrictlySortedBy}
use Rattle.std.specs.declared.cmp.Ordering.TheVariants.{Less}
use Rattle.std.proofs.lemmas.Bool.{cases_order}
use Rattle.std.proofs.lemmas.List.{append_assoc, append-nil}
use Rattle.cil_base.specs.Lists.{Lists, contains_cases, contains_here, contains_later, contains_none, text_cmp}
use Rattle.cil_host.specs.Machine.{State}
use Rattle.cil_host.specs.Permissions.{AreNamesOf}
use Rattle.cil_world.specs.Masks.{IsListed, IsNamed, IsNameOf, IsPlaced, Spells, behind_comma, listed}

-- the names of a mask from a bit on, with so many bits left, bit by bit
pub data Walked (h : State) (class_name : List ℕ) (mask : ℕ) : ℕ → ℕ → List (List ℕ) → Type 0 where
  no_more : {bit : ℕ} → Walked h class_name mask zero bit []
  named : {left bit : ℕ} {names : List (List ℕ)} (name : List ℕ) → IsPlaced h class_name mask bit name → Walked h class_name mask left (suc bit) names
      → Walked h class_name mask (suc left) bit (name ∷ names)
  skipped : {left bit : ℕ} {names : List (List ℕ)} → ((name : List ℕ) → IsNamed h class_name mask bit name → ⊥) → Walked h class_name mask left (suc bit) names
      → Walked h class_name mask (suc left) bit names

-- the name of a bit between two places
record IsBetween (h : State) (class_name : List ℕ) (mask low high : ℕ) (name : List ℕ) : Type 0 where
  bit : ℕ
  from : low ≤ bit
  below : bit < high
  placed : IsPlaced h class_name mask bit name

all_of : {X : Type 0} (P : X → Type 0) (xs : List X) → ((x : X) → Contains xs x → P x) → AllByRecursion P xs
all_of P [] f = tt
all_of P (x ∷ xs) f = (f x (contains_here x xs), all_of P xs (λ y c. f y (contains_later y x xs c)))

module _ (h : State) (class_name : List ℕ) (mask : ℕ) where
  is_between : {left bit : ℕ} {names : List (List ℕ)} → Walked h class_name mask left bit names → (name : List ℕ) → Contains names name
      → IsBetween h class_name mask bit (left + bit) name
  is_between Walked.no_more name c = absurd (contains_none name c)
  is_between {left = suc left} {bit = bit} {names = x ∷ names} (Walked.named y at rest) name c = elim (contains_cases name x names c) [
    | inl e ↦ subst (λ z. IsBetween h class_name mask bit (suc left + bit) z) e (record { bit = bit; from = omega arith; below = omega arith; placed = at })
    | inr later ↦ let i = is_between rest name later in record { bit = i.bit; from = omega (arith, i.from); below = omega (arith, i.below); placed = i.placed }
  ]
  is_between {left = suc left} {bit = bit} (Walked.skipped none rest) name c =
      let i = is_between rest name c in record { bit = i.bit; from = omega (arith, i.from); below = omega (arith, i.below); placed = i.placed }

  has_each : {left bit : ℕ} {names : List (List ℕ)} → Walked h class_name mask left bit names → (b : ℕ) (name : List ℕ) → bit ≤ b → b < left + bit
      → IsNamed h class_name mask b name → Contains names name
  has_each Walked.no_more b name low high is = absurd (omega (arith, low, high))
  has_each {left = suc left} {bit = bit} {names = x ∷ names} (Walked.named y at rest) b name low high is = elim (cases_order bit b) [
    | inl e ↦ subst (λ z. Contains (z ∷ names) name) (at.order.only name (subst (λ k. IsNamed h class_name mask k name) (sym e) is).permission) (contains_here name names)
    | inr other ↦ elim other [
      | inl less ↦ contains_later name x names (has_each rest b name (omega (arith, less)) (omega (arith, high)) is)
      | inr more ↦ absurd (omega (arith, low, more))
    ]
  ]
  has_each {left = suc left} {bit = bit} (Walked.skipped none rest) b name low high is = elim (cases_order bit b) [
    | inl e ↦ absurd (none name (subst (λ k. IsNamed h class_name mask k name) (sym e) is))
    | inr other ↦ elim other [
      | inl less ↦ has_each rest b name (omega (arith, less)) (omega (arith, high)) is
      | inr more ↦ absurd (omega (arith, low, more))
    ]
  ]

  rises : {left bit : ℕ} {names : List (List ℕ)} → Walked h class_name mask left bit names → IsStrictlySortedBy text_cmp names
  unfolding IsStrictlySortedBy
  rises Walked.no_more = tt
  rises {left = suc left} {bit = bit} {names = x ∷ names} (Walked.named y at rest) = (
    all_of (λ q. text_cmp x q ≡ Less) names
        (λ q c. let i = is_between rest q c in at.order.before i.bit q (omega (arith, i.from)) i.placed.named.permission),
    rises rest,
  )
  rises (Walked.skipped none rest) = rises rest

  names_of_walked : {names : List (List ℕ)} → Walked h class_name mask 32 0 names → Lists text_cmp (IsNameOf h class_name mask) names
  names_of_walked {names = names} w = record {
    rising = rises w;
    members = λ name. (
      (λ c. let i = is_between w name c in record { bit = i.bit; within = i.below; named = i.placed.named }),
      (λ is. has_each w is.bit name (omega arith) is.within is.named),
    );
  }

-- the names so far are those of the bits below this one
abbrev pub AreSeen : State → List ℕ → ℕ → ℕ → List (List ℕ) → Type 0
AreSeen h class_name mask bit seen =
    (left : ℕ) (more : List (List ℕ)) → left + bit ≡ 32 → Walked h class_name mask left bit more → Walked h class_name mask 32 0 (seen ++ more)

module _ (h : State) (class_name : List ℕ) (mask : ℕ) where
  pub seen_none : AreSeen h class_name mask 0 []
  seen_none = λ left more e n. let all : left ≡ 32 = omega (arith, e) in subst (λ l. Walked h class_name mask l 0 more) all n

  pub seen_named : (bit : ℕ) (seen : List (List ℕ)) (name : List ℕ) → AreSeen h class_name mask bit seen → IsPlaced h class_name mask bit name
      → AreSeen h class_name mask (bit + 1) (seen ++ name ∷ [])
  seen_named bit seen name f is = λ left more e n.
      let next : bit + 1 ≡ suc bit = omega arith in
      let all : suc left + bit ≡ 32 = omega (arith, e) in
      subst (λ z. Walked h class_name mask 32 0 z) (sym (append_assoc seen (name ∷ []) more))
      (f (suc left) (name ∷ more) all (Walked.named name is (subst (λ b. Walked h class_name mask left b more) next n)))

  pub seen_skipped : (bit : ℕ) (seen : List (List ℕ)) → AreSeen h class_name mask bit seen → ((name : List ℕ) → IsNamed h class_name mask bit name → ⊥)
      → AreSeen h class_name mask (bit + 1) seen
  seen_skipped bit seen f none = λ left more e n.
      let next : bit + 1 ≡ suc bit = omega arith in
      let all : suc left + bit ≡ 32 = omega (arith, e) in
      f (suc left) more all (Walked.skipped none (subst (λ b. Walked h class_name mask left b more) next n))

  pub seen_all : (seen : List (List ℕ)) → AreSeen h class_name mask 32 seen → Lists text_cmp (IsNameOf h class_name mask) seen
  seen_all seen f = names_of_walked h class_name mask (subst (λ z. Walked h class_name mask 32 0 z) (append-nil seen) (f 0 [] refl Walked.no_more))

-- names with commas between; nothing where there is none
abbrev pub shown : List (List ℕ) → List ℕ
shown [] = []
shown (name ∷ names) = name ++ listed names

listed_more : (names : List (List ℕ)) (name : List ℕ) → listed (names ++ name ∷ []) ≡ (listed names ++ 44 ∷ []) ++ name
listed_more [] name = ap (λ z. 44 ∷ z) (append-nil name)
listed_more (n ∷ ns) name =
    ap (λ z. (44 ∷ n) ++ z) (listed_more ns name) ∙ sym (append_assoc (44 ∷ n) (listed ns ++ 44 ∷ []) name)
    ∙ ap (λ z. z ++ name) (sym (append_assoc (44 ∷ n) (listed ns) (44 ∷ [])))

pub shown_first : (name : List ℕ) → shown (name ∷ []) ≡ name
shown_first name = append-nil name

pub shown_more : (first : List ℕ) (names : List (List ℕ)) (name : List ℕ) → shown ((first ∷ names) ++ name ∷ []) ≡ (shown (first ∷ names) ++ 44 ∷ []) ++ name
shown_more first names name =
    ap (λ z. first ++ z) (listed_more names name) ∙ sym (append_assoc first (listed names ++ 44 ∷ []) name)
    ∙ ap (λ z. z ++ name) (sym (append_assoc first (listed names) (44 ∷ [])))

-- ---- spelled

abbrev pub is_none_yet : List (List ℕ) → Bool
is_none_yet [] = true
is_none_yet (name ∷ names) = false

-- the text has the names of the bits below this one
pub record AreShown (h : State) (class_name : List ℕ) (mask bit : ℕ) (text : List ℕ) (is_first : Bool) : Type 0 where
  pub seen : List (List ℕ)
  pub are_seen : AreSeen h class_name mask bit seen
  pub text_is : text ≡ shown seen
  pub first : is_none_yet seen ≡ is_first

module _ (h : State) (class_name : List ℕ) (mask : ℕ) where
  pub shown_none : AreShown h class_name mask 0 [] true
  shown_none = record { seen = []; are_seen = seen_none h class_name mask; text_is = refl; first = refl }

  pub shown_name : (bit : ℕ) (text name new : List ℕ) (is_first : Bool) → AreShown h class_name mask bit text is_first → IsPlaced h class_name mask bit name
      → new ≡ text ++ behind_comma is_first name → AreShown h class_name mask (bit + 1) new false
  shown_name bit text name new is_first t is e = begin t.seen is_first t.are_seen t.text_is t.first e
    where
      begin : (seen : List (List ℕ)) (first : Bool) → AreSeen h class_name mask bit seen → text ≡ shown seen → is_none_yet seen ≡ first
          → new ≡ text ++ behind_comma first name → AreShown h class_name mask (bit + 1) new false
      begin [] true s told f g = record {
        seen = name ∷ [];
        are_seen = seen_named h class_name mask bit [] name s is;
        text_is = g ∙ ap (λ z. z ++ name) told ∙ sym (shown_first name);
        first = refl;
      }
      begin (n ∷ ns) false s told f g = record {
        seen = (n ∷ ns) ++ name ∷ [];
        are_seen = seen_named h class_name mask bit (n ∷ ns) name s is;
        text_is = g ∙ ap (λ z. z ++ 44 ∷ name) told ∙ sym (append_assoc (shown (n ∷ ns)) (44 ∷ []) name) ∙ sym (shown_more n ns name);
        first = refl;
      }
      begin [] false s told f g = absurd cc
      begin (n ∷ ns) true s told f g = absurd cc

  pub shown_skipped : (bit : ℕ) (text : List ℕ) (is_first : Bool) → AreShown h class_name mask bit text is_first
      → ((name : List ℕ) → IsNamed h class_name mask bit name → ⊥) → AreShown h class_name mask (bit + 1) text is_first
  shown_skipped bit text is_first t none =
      record { seen = t.seen; are_seen = seen_skipped h class_name mask bit t.seen t.are_seen none; text_is = t.text_is; first = t.first }

  pub spelled_hyphen : (bit : ℕ) (text new : List ℕ) → bit ≡ 32 → AreShown h class_name mask bit text true → new ≡ text ++ 45 ∷ [] → Spells h class_name mask new
  spelled_hyphen bit text new at t e = end t.seen (subst (λ k. AreSeen h class_name mask k t.seen) at t.are_seen) t.text_is t.first
    where
      end : (seen : List (List ℕ)) → AreSeen h class_name mask 32 seen → text ≡ shown seen → is_none_yet seen ≡ true → Spells h class_name mask new
      end [] s told f = record { names = []; are_names = seen_all h class_name mask [] s; spelled = e ∙ ap (λ z. z ++ 45 ∷ []) told }
      end (n ∷ ns) s told f = absurd cc

  pub spelled_all : (bit : ℕ) (text : List ℕ) → bit ≡ 32 → AreShown h class_name mask bit text false → Spells h class_name mask text
  spelled_all bit text at t = end t.seen (subst (λ k. AreSeen h class_name mask k t.seen) at t.are_seen) t.text_is t.first
    where
      end : (seen : List (List ℕ)) → AreSeen h class_name mask 32 seen → text ≡ shown seen → is_none_yet seen ≡ false → Spells h class_name mask text
      end [] s told f = absurd cc
      end (n ∷ ns) s told f = record { names = n ∷ ns; are_names = seen_all h class_name mask (n ∷ ns) s; spelled = told }

-- the name of a bit that is set, where these are the names of all bits
pub placed_by : (h : State) (class_name : List ℕ) (mask bit : ℕ) (names : List (List ℕ)) (name : List ℕ)
    → AreNamesOf h class_name names → IsListed names mask bit name → IsPlaced h class_name mask bit name
placed_by h class_name mask bit names name are is =
    record { named = record { is_set = is.is_set; permission = (are.all bit name).1 is.is_name }; order = are.order bit name is.is_name }

-- a bit has no name
pub unnamed_by : (h : State) (class_name : List ℕ) (mask bit : ℕ) (names : List (List ℕ)) → AreNamesOf h class_name names
    → ((name : List ℕ) → IsListed names mask bit name → ⊥) → (name : List ℕ) → IsNamed h class_name mask bit name → ⊥
unnamed_by h class_name mask bit names are none name is = none name (record { is_set = is.is_set; is_name = (are.all bit name).0 is.permission })
