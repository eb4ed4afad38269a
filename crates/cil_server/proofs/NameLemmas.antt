-- The names of a mask, bit by bit.
use Rattle.std.specs.Prelude.{codes, Contains, Option, MatchOption, None, Some, slice_get, unwrap_or}
use denote.Ref.{Bor}
use Rattle.std.proofs.Common.{◌≡◌, ℕ, zero, suc, ◌+◌, ◌<◌, ◌≤◌, inl, inr, List, [], ◌∷◌, ◌++◌, refl, sym, ◌∙◌, ap, subst, arith, Bool, true, false}
use Rattle.std.specs.List.{AllByRecursion}
use Rattle.std.specs.List.Sorted.{IsStrictlySortedBy}
use Rattle.std.specs.declared.cmp.Ordering.TheVariants.{Less}
use Rattle.std.proofs.lemmas.Bool.{cases_order}
use Rattle.std.proofs.lemmas.List.{append_assoc, append-nil}
use Rattle.cil_base.specs.Lists.{contains_cases, contains_here, contains_later, contains_none, text_cmp}
use Rattle.cil_base.specs.Places.{get_at}
use Rattle.cil_base.specs.Rising.{rises_between}
use Rattle.cil_host.specs.decide_crate.Decision.{Decision}
use Rattle.cil_host.specs.Machine.{State}
use Rattle.cil_host.specs.Permissions.{AreNamesOf}
use Rattle.cil_server.specs.Masks.{AreOfMask, IsListed, TellsMasks, TellsNames}
use Rattle.cil_server.specs.Replies.{listed}
use Rattle.cil_server.specs.Step.{NamesOf}
use Rattle.cil_server.specs.Streams.{OutputState, Tells}
use Rattle.cil_server.specs.Turns.{TellsDecision, TellsName, behind_comma}
use Rattle.cil_server.proofs.StreamLemmas.{tells_before, tells_both, tells_none}

-- the names of a mask from a bit on, with so many bits left, bit by bit
pub data Walked (permissions : List (List ℕ)) (mask : ℕ) : ℕ → ℕ → List (List ℕ) → Type 0 where
  no_more : {bit : ℕ} → Walked permissions mask zero bit []
  named : {left bit : ℕ} {names : List (List ℕ)} (name : List ℕ) → IsListed permissions mask bit name → Walked permissions mask left (suc bit) names
      → Walked permissions mask (suc left) bit (name ∷ names)
  skipped : {left bit : ℕ} {names : List (List ℕ)} → ((name : List ℕ) → IsListed permissions mask bit name → ⊥) → Walked permissions mask left (suc bit) names
      → Walked permissions mask (suc left) bit names

-- the name of a bit between two places
record IsBetween (permissions : List (List ℕ)) (mask low high : ℕ) (name : List ℕ) : Type 0 where
  bit : ℕ
  from : low ≤ bit
  below : bit < high
  listed_there : IsListed permissions mask bit name

all_of : {X : Type 0} (P : X → Type 0) (xs : List X) → ((x : X) → Contains xs x → P x) → AllByRecursion P xs
all_of P [] f = tt
all_of P (x ∷ xs) f = (f x (contains_here x xs), all_of P xs (λ y c. f y (contains_later y x xs c)))

module _ (permissions : List (List ℕ)) (mask : ℕ) where
  is_between : {left bit : ℕ} {names : List (List ℕ)} → Walked permissions mask left bit names → (name : List ℕ) → Contains names name
      → IsBetween permissions mask bit (left + bit) name
  is_between Walked.no_more name c = absurd (contains_none name c)
  is_between {left = suc left} {bit = bit} {names = x ∷ names} (Walked.named y at rest) name c = elim (contains_cases name x names c) [
    | inl e ↦ subst (λ z. IsBetween permissions mask bit (suc left + bit) z) e (record { bit = bit; from = omega arith; below = omega arith; listed_there = at })
    | inr later ↦ let i = is_between rest name later in record { bit = i.bit; from = omega (arith, i.from); below = omega (arith, i.below); listed_there = i.listed_there }
  ]
  is_between {left = suc left} {bit = bit} (Walked.skipped none rest) name c =
      let i = is_between rest name c in record { bit = i.bit; from = omega (arith, i.from); below = omega (arith, i.below); listed_there = i.listed_there }

  one_name : (bit : ℕ) (a b : List ℕ) → slice_get permissions bit ≡ Some a → slice_get permissions bit ≡ Some b → a ≡ b
  one_name bit a b p q = ap (λ o. unwrap_or o a) (sym p ∙ q)

  has_each : {left bit : ℕ} {names : List (List ℕ)} → Walked permissions mask left bit names → (b : ℕ) (name : List ℕ) → bit ≤ b → b < left + bit
      → IsListed permissions mask b name → Contains names name
  has_each Walked.no_more b name low high is = absurd (omega (arith, low, high))
  has_each {left = suc left} {bit = bit} {names = x ∷ names} (Walked.named y at rest) b name low high is = elim (cases_order bit b) [
    | inl e ↦ subst (λ z. Contains (z ∷ names) name) (one_name bit name x (ap (slice_get permissions) e ∙ is.is_name) at.is_name) (contains_here name names)
    | inr other ↦ elim other [
      | inl less ↦ contains_later name x names (has_each rest b name (omega (arith, less)) (omega (arith, high)) is)
      | inr more ↦ absurd (omega (arith, low, more))
    ]
  ]
  has_each {left = suc left} {bit = bit} (Walked.skipped none rest) b name low high is = elim (cases_order bit b) [
    | inl e ↦ absurd (none name (subst (λ k. IsListed permissions mask k name) (sym e) is))
    | inr other ↦ elim other [
      | inl less ↦ has_each rest b name (omega (arith, less)) (omega (arith, high)) is
      | inr more ↦ absurd (omega (arith, low, more))
    ]
  ]

  rises : {left bit : ℕ} {names : List (List ℕ)} → IsStrictlySortedBy text_cmp permissions → Walked permissions mask left bit names → IsStrictlySortedBy text_cmp names
  unfolding IsStrictlySortedBy
  rises rising Walked.no_more = tt
  rises {left = suc left} {bit = bit} {names = x ∷ names} rising (Walked.named y at rest) = (
    all_of (λ q. text_cmp x q ≡ Less) names
        (λ q c. let i = is_between rest q c in rises_between text_cmp permissions bit i.bit x q rising at.is_name i.listed_there.is_name (omega (arith, i.from))),
    rises rising rest,
  )
  rises rising (Walked.skipped none rest) = rises rising rest

  names_of_walked : {names : List (List ℕ)} → IsStrictlySortedBy text_cmp permissions → Walked permissions mask 32 0 names → AreOfMask permissions mask names
  names_of_walked {names = names} rising w = record {
    rising = rises rising w;
    members = λ name. (
      (λ c. let i = is_between w name c in record { bit = i.bit; within = i.below; listed = i.listed_there }),
      (λ is. has_each w is.bit name (omega arith) is.within is.listed),
    );
  }

-- the names so far are those of the bits below this one
abbrev pub AreSeen : List (List ℕ) → ℕ → ℕ → List (List ℕ) → Type 0
AreSeen permissions mask bit seen =
    (left : ℕ) (more : List (List ℕ)) → left + bit ≡ 32 → Walked permissions mask left bit more → Walked permissions mask 32 0 (seen ++ more)

module _ (permissions : List (List ℕ)) (mask : ℕ) where
  pub seen_none : AreSeen permissions mask 0 []
  seen_none = λ left more e n. let all : left ≡ 32 = omega (arith, e) in subst (λ l. Walked permissions mask l 0 more) all n

  pub seen_named : (bit : ℕ) (seen : List (List ℕ)) (name : List ℕ) → AreSeen permissions mask bit seen → IsListed permissions mask bit name
      → AreSeen permissions mask (bit + 1) (seen ++ name ∷ [])
  seen_named bit seen name f is = λ left more e n.
      let next : bit + 1 ≡ suc bit = omega arith in
      let all : suc left + bit ≡ 32 = omega (arith, e) in
      subst (λ z. Walked permissions mask 32 0 z) (sym (append_assoc seen (name ∷ []) more))
      (f (suc left) (name ∷ more) all (Walked.named name is (subst (λ b. Walked permissions mask left b more) next n)))

  pub seen_skipped : (bit : ℕ) (seen : List (List ℕ)) → AreSeen permissions mask bit seen → ((name : List ℕ) → IsListed permissions mask bit name → ⊥)
      → AreSeen permissions mask (bit + 1) seen
  seen_skipped bit seen f none = λ left more e n.
      let next : bit + 1 ≡ suc bit = omega arith in
      let all : suc left + bit ≡ 32 = omega (arith, e) in
      f (suc left) more all (Walked.skipped none (subst (λ b. Walked permissions mask left b more) next n))

  pub seen_all : (seen : List (List ℕ)) → IsStrictlySortedBy text_cmp permissions → AreSeen permissions mask 32 seen → AreOfMask permissions mask seen
  seen_all seen rising f = names_of_walked permissions mask rising (subst (λ z. Walked permissions mask 32 0 z) (append-nil seen) (f 0 [] refl Walked.no_more))

-- names with commas between; nothing where there is none
abbrev pub shown : List (List ℕ) → List ℕ
shown [] = []
shown (name ∷ names) = name ++ listed names

listed_more : (names : List (List ℕ)) (name : List ℕ) → listed (names ++ name ∷ []) ≡ (listed names ++ 44 ∷ []) ++ name
listed_more [] name = ap (λ z. 44 ∷ z) (append-nil name)
listed_more (n ∷ ns) name =
    ap (λ z. (44 ∷ n) ++ z) (listed_more ns name) ∙ sym (append_assoc (44 ∷ n) (listed ns ++ 44 ∷ []) name)
    ∙ ap (λ z. z ++ name) (sym (append_assoc (44 ∷ n) (listed ns) (44 ∷ [])))

pub shown_first : (name : List ℕ) → shown (name ∷ []) ≡ name
shown_first name = append-nil name

pub shown_more : (first : List ℕ) (names : List (List ℕ)) (name : List ℕ) → shown ((first ∷ names) ++ name ∷ []) ≡ (shown (first ∷ names) ++ 44 ∷ []) ++ name
shown_more first names name =
    ap (λ z. first ++ z) (listed_more names name) ∙ sym (append_assoc first (listed names ++ 44 ∷ []) name)
    ∙ ap (λ z. z ++ name) (sym (append_assoc first (listed names) (44 ∷ [])))

-- ---- told

abbrev pub is_none_yet : List (List ℕ) → Bool
is_none_yet [] = true
is_none_yet (name ∷ names) = false

-- the names of the bits below this one are told
pub record AreTold (permissions : List (List ℕ)) (mask bit : ℕ) (tells : List ℕ → Type 0) (is_first : Bool) : Type 0 where
  pub seen : List (List ℕ)
  pub are_seen : AreSeen permissions mask bit seen
  pub told : tells (shown seen)
  pub first : is_none_yet seen ≡ is_first

-- the name of a bit, told; and whether the next one is the first
pub data TellsBit (permissions : List (List ℕ)) (mask bit : ℕ) (is_first : Bool) (tells : List ℕ → Type 0) : Bool → Type 0 where
  named : (name : List ℕ) → IsListed permissions mask bit name → tells (behind_comma is_first name) → TellsBit permissions mask bit is_first tells false
  skipped : {still : Bool} → ((name : List ℕ) → IsListed permissions mask bit name → ⊥) → tells [] → still ≡ is_first → TellsBit permissions mask bit is_first tells still

module _ (permissions : List (List ℕ)) (mask : ℕ) (w v u : OutputState) where
  pub told_none : AreTold permissions mask 0 (Tells w w) true
  told_none = record { seen = []; are_seen = seen_none permissions mask; told = tells_none w; first = refl }

  told_name : (bit : ℕ) (is_first : Bool) (name : List ℕ) → AreTold permissions mask bit (Tells w v) is_first → IsListed permissions mask bit name
      → Tells v u (behind_comma is_first name) → AreTold permissions mask (bit + 1) (Tells w u) false
  told_name bit is_first name t is tells = begin t.seen is_first t.are_seen t.told t.first tells
    where
      begin : (seen : List (List ℕ)) (first : Bool) → AreSeen permissions mask bit seen → Tells w v (shown seen) → is_none_yet seen ≡ first
          → Tells v u (behind_comma first name) → AreTold permissions mask (bit + 1) (Tells w u) false
      begin [] true s told e f = record {
        seen = name ∷ [];
        are_seen = seen_named permissions mask bit [] name s is;
        told = subst (Tells w u) (sym (shown_first name)) (tells_both w v u [] name told f);
        first = refl;
      }
      begin (n ∷ ns) false s told e f = record {
        seen = (n ∷ ns) ++ name ∷ [];
        are_seen = seen_named permissions mask bit (n ∷ ns) name s is;
        told = subst (Tells w u) (sym (append_assoc (shown (n ∷ ns)) (44 ∷ []) name) ∙ sym (shown_more n ns name)) (tells_both w v u (shown (n ∷ ns)) (44 ∷ name) told f);
        first = refl;
      }
      begin [] false s told e f = absurd cc
      begin (n ∷ ns) true s told e f = absurd cc

  pub told_bit : (bit : ℕ) (is_first next : Bool) → AreTold permissions mask bit (Tells w v) is_first
      → TellsBit permissions mask bit is_first (Tells v u) next → AreTold permissions mask (bit + 1) (Tells w u) next
  told_bit bit is_first false t (TellsBit.named name is tells) = told_name bit is_first name t is tells
  told_bit bit is_first next t (TellsBit.skipped none tells e) = record {
    seen = t.seen;
    are_seen = seen_skipped permissions mask bit t.seen t.are_seen none;
    told = tells_before w v u (shown t.seen) t.told tells;
    first = t.first ∙ sym e;
  }

  pub told_hyphen : (bit : ℕ) (is_first : Bool) → IsStrictlySortedBy text_cmp permissions → AreTold permissions mask bit (Tells w v) is_first → bit ≡ 32 → is_first ≡ true → Tells v u (codes "-")
      → TellsNames permissions mask (Tells w u)
  told_hyphen bit is_first rising t at e tells = end t.seen (subst (λ k. AreSeen permissions mask k t.seen) at t.are_seen) t.told (t.first ∙ e)
    where
      end : (seen : List (List ℕ)) → AreSeen permissions mask 32 seen → Tells w v (shown seen) → is_none_yet seen ≡ true → TellsNames permissions mask (Tells w u)
      end [] s told e = record { names = []; are_names = seen_all permissions mask [] rising s; told = tells_both w v u [] (codes "-") told tells }
      end (n ∷ ns) s told e = absurd cc

  pub told_all : (bit : ℕ) (is_first : Bool) → IsStrictlySortedBy text_cmp permissions → AreTold permissions mask bit (Tells w v) is_first → bit ≡ 32 → is_first ≡ false → TellsNames permissions mask (Tells w v)
  told_all bit is_first rising t at e = end t.seen (subst (λ k. AreSeen permissions mask k t.seen) at t.are_seen) t.told (t.first ∙ e)
    where
      end : (seen : List (List ℕ)) → AreSeen permissions mask 32 seen → Tells w v (shown seen) → is_none_yet seen ≡ false → TellsNames permissions mask (Tells w v)
      end [] s told e = absurd cc
      end (n ∷ ns) s told e = record { names = n ∷ ns; are_names = seen_all permissions mask (n ∷ ns) rising s; told = told }

-- the name of a bit, looked up and then told
pub bit_of : (permissions : List (List ℕ)) (mask bit : ℕ) (is_first still : Bool) (name : Option (Bor (List ℕ))) (tells : List ℕ → Type 0)
    → MatchOption name ((n : List ℕ) → IsListed permissions mask bit n → ⊥) (λ n. IsListed permissions mask bit n.now) → TellsName is_first tells name still
    → TellsBit permissions mask bit is_first tells still
bit_of permissions mask bit is_first still None tells none t = TellsBit.skipped none t.0 t.1
bit_of permissions mask bit is_first still (Some name) tells is t =
    subst (λ z. TellsBit permissions mask bit is_first tells z) (sym t.1) (TellsBit.named name.now is t.0)

-- a name behind another one
pub name_later : (is_first : Bool) (tells : List ℕ → Type 0) (option : Option (Bor (List ℕ))) (name : Bor (List ℕ)) → option ≡ Some name → is_first ≡ false
    → tells (44 ∷ name.now) → TellsName is_first tells option false
name_later is_first tells option name e f told =
    subst (λ z. TellsName is_first tells z false) (sym e) (subst (λ b. tells (behind_comma b name.now)) (sym f) told, refl)

-- ---- by the class of a host

rising_by_places : (xs : List (List ℕ))
    → ((i j : ℕ) (x y : List ℕ) → i < j → slice_get xs i ≡ Some x → slice_get xs j ≡ Some y → text_cmp x y ≡ Less) → IsStrictlySortedBy text_cmp xs
unfolding IsStrictlySortedBy
rising_by_places [] f = tt
rising_by_places (x ∷ xs) f = (
  all_of (λ q. text_cmp x q ≡ Less) xs (λ q c. let at = get_at xs q c in f 0 (suc at.0) x q (omega arith) refl at.2),
  rising_by_places xs (λ i j a b less p q. f (suc i) (suc j) a b (omega (arith, less)) p q),
)

-- the names of the permissions of a class rise
pub names_rise : (h : State) (class_name : List ℕ) (permissions : List (List ℕ)) → AreNamesOf h class_name permissions → IsStrictlySortedBy text_cmp permissions
names_rise h class_name permissions are = rising_by_places permissions (λ i j x y less p q. (are.order i x p).before j y less ((are.all j y).1 q))

names_of_mask : (h : State) (class_name : List ℕ) (permissions : List (List ℕ)) (mask : ℕ) (names : List (List ℕ)) → AreNamesOf h class_name permissions
    → AreOfMask permissions mask names → NamesOf h class_name mask names
names_of_mask h class_name permissions mask names are of = record {
  rising = of.rising;
  members = λ name. (
    (λ c. let is = (of.members name).0 c in
        record { bit = is.bit; within = is.within; named = record { is_set = is.listed.is_set; permission = (are.all is.bit name).1 is.listed.is_name } }),
    (λ is. (of.members name).1 (record {
      bit = is.bit;
      within = is.within;
      listed = record { is_set = is.named.is_set; is_name = (are.all is.bit name).0 is.named.permission };
    })),
  );
}

-- a decision that is told by the names of all permissions of the class is told
pub decision_told : (h : State) (class_name : List ℕ) (permissions : List (List ℕ)) (d : Decision) (tells : List ℕ → Type 0) → AreNamesOf h class_name permissions
    → (IsStrictlySortedBy text_cmp permissions → TellsMasks permissions d tells) → TellsDecision h class_name d tells
decision_told h class_name permissions d tells are by =
    let t = by (names_rise h class_name permissions are) in
    let is = t.is_reply in
    record {
      allowed = is.allowed;
      auditallow = is.auditallow;
      auditdeny = is.auditdeny;
      are_allowed = names_of_mask h class_name permissions d.allowed is.allowed are is.are_allowed;
      are_auditallow = names_of_mask h class_name permissions d.auditallow is.auditallow are is.are_auditallow;
      are_auditdeny = names_of_mask h class_name permissions d.auditdeny is.auditdeny are is.are_auditdeny;
      told = subst tells is.is_reply t.told;
    }
