-- Entries, by their keys and by what words want.
use Rattle.std.proofs.Common.{◌≡◌, ℕ, ◌+◌, ◌<◌, ◌≤◌, ◌&&◌, ◌||◌, ◌==◌, Bool, true, false, cond, List, drop, get_or, length, sym, ◌∙◌, ap, arith}
use Rattle.std.specs.Prelude.{None, Some, find, slice_get}
use Rattle.std.specs.List.{list_any}
use Rattle.std.specs.Option.{option_map_or}
use Rattle.cil_macros.specs.Item.{OptSet}
use Rattle.std.specs.Cmp.Lexicographic.{bytes_decides}
use Rattle.std.proofs.lemmas.Bool.{and_parts, true≢false}
use Rattle.std.proofs.lemmas.List.{drop_all}
use Rattle.std.proofs.lemmas.Option.{same_Some}
use Rattle.cil_base.specs.Places.{drop_at}
use Rattle.std.proofs.lemmas.Bool.Decides.{nat_tests}
use Rattle.cil_syntax.specs.declared.kind.Kind.{Kind}
use Rattle.cil_syntax.specs.declared.kind.Sign.{Sign}
use Rattle.cil_syntax.specs.Spelling.{same_bytes}
use Rattle.cil_names.specs.declared.entry.Entry.{Entry}
use Rattle.cil_names.specs.Entries.{HasNoEntry, IsEntryAt, Key, is_declared_at, is_declared_in, is_entry, key_of, listed}
use Rattle.cil_syntax.specs.NameSpaces.{rank}
use Rattle.cil_names.specs.Soles.{IsWantedIn}
use Rattle.cil_base.specs.Found.{IsFound, IsMissing}
use Rattle.cil_syntax.specs.Kinds.{is_wanted}

same_number : (a b : ℕ) → (a == b) ≡ true → a ≡ b
same_number a b e = grind (arith, nat_tests)

is_itself : (a : ℕ) → (a == a) ≡ true
is_itself a = grind (arith, nat_tests)

-- what an entry that fits is
pub parts_fit : (name : List ℕ) (sign : Sign) (k : ℕ) (e : Entry) → is_entry name sign k e ≡ true → (e.space ≡ k) × (e.name ≡ name) × (is_wanted sign e.kind ≡ true)
parts_fit name sign k e fits =
    let (front, wanted) = and_parts ((e.space == k) && same_bytes e.name name) (is_wanted sign e.kind) fits in
    let (space, named) = and_parts (e.space == k) (same_bytes e.name name) front in
    (same_number e.space k space, (bytes_decides e.name name).0 named, wanted)

pub they_fit : (name : List ℕ) (sign : Sign) (k : ℕ) (e : Entry) → e.space ≡ k → e.name ≡ name → is_wanted sign e.kind ≡ true → is_entry name sign k e ≡ true
they_fit name sign k e p q r =
    ap (λ b. b && same_bytes e.name name && is_wanted sign e.kind) (ap (λ j. e.space == j) (sym p) ∙ is_itself e.space)
    ∙ ap (λ b. b && is_wanted sign e.kind) ((bytes_decides e.name name).1 q)
    ∙ r

key_is : (e : Entry) (name : List ℕ) (k r : ℕ) → e.space ≡ k → e.name ≡ name → rank e.kind ≡ r → key_of e ≡ record { space = k; name = name; rank = r }
key_is e name k r p q s = λ i. record { space = p i; name = q i; rank = s i }

module _ (es : List Entry) (name : List ℕ) (sign : Sign) (k r : ℕ) (of_rank : (kind : Kind) → is_wanted sign kind ≡ true → rank kind ≡ r) where
  has_key : (e : Entry) → is_entry name sign k e ≡ true → key_of e ≡ record { space = k; name = name; rank = r }
  has_key e fits = let (space, named, wanted) = parts_fit name sign k e fits in key_is e name k r space named (of_rank e.kind wanted)

  pub entry_missing : IsMissing key_of es (record { space = k; name = name; rank = r }) → HasNoEntry es name sign k
  entry_missing none m e at fits = none m e at (has_key e fits)

  module _ (d : ℕ) (found : IsFound key_of es (record { space = k; name = name; rank = r }) d) where
    pub entry_wanted : IsWantedIn es k sign d → IsEntryAt es name sign k d
    entry_wanted (e, at, space, wanted) =
        let same : found.item ≡ e = same_Some found.item e (sym found.at ∙ at) in
        record {
          entry = e;
          at = at;
          fits = they_fit name sign k e space (ap (λ (e : Entry). e.name) (sym same) ∙ ap (λ (k : Key). k.name) found.has_key) wanted;
          only = λ m x is fits. found.only m x is (has_key x fits);
        }

    pub entry_unwanted : (IsWantedIn es k sign d → ⊥) → HasNoEntry es name sign k
    entry_unwanted other m x is fits =
        let (space, named, wanted) = parts_fit name sign k x fits in
        other (x, ap (slice_get es) (sym (found.only m x is (has_key x fits))) ∙ is, space, wanted)

pub unwanted_missing : (es : List Entry) (name : List ℕ) (sign : Sign) (k : ℕ) → ((kind : Kind) → is_wanted sign kind ≡ false) → HasNoEntry es name sign k
unwanted_missing es name sign k none m e at fits =
    let (space, named, wanted) = parts_fit name sign k e fits in true≢false (sym wanted ∙ none e.kind)

-- ---- whether one of a list has a property, step by step

module _ {X : Type 0} (p : X → Bool) (xs : List X) (i : ℕ) (before : list_any p xs ≡ list_any p (drop i xs)) where
  pub none_has : length xs ≤ i → false ≡ list_any p xs
  none_has over = sym (before ∙ ap (list_any p) (drop_all i xs over))

  module _ (x d : X) (within : i < length xs) (is : x ≡ get_or xs i d) (b : Bool) (so : b ≡ p x) where
    next : list_any p xs ≡ (b || list_any p (drop (i + 1) xs))
    next = before ∙ ap (list_any p) (drop_at xs i x d within is) ∙ ap (λ c. c || list_any p (drop (i + 1) xs)) (sym so)

    pub one_has : b ≡ true → true ≡ list_any p xs
    one_has has = sym (next ∙ ap (λ c. c || list_any p (drop (i + 1) xs)) has)

    pub none_yet : b ≡ false → list_any p xs ≡ list_any p (drop (i + 1) xs)
    none_yet lacks = next ∙ ap (λ c. c || list_any p (drop (i + 1) xs)) lacks

-- ---- whether an entry is declared

module _ (s : OptSet) (es : List Entry) (d : ℕ) where
  found_so : (b : Bool) → is_declared_at s es d ≡ b → cond b (Some d) None ≡ find (is_declared_at s es) (listed (Some d))
  found_so b e = ap (λ b. cond b (Some d) None) (sym e)

  pub none_there : slice_get es d ≡ None → None ≡ find (is_declared_at s es) (listed (Some d))
  none_there gone = found_so false (ap (λ o. option_map_or (is_declared_in s) o false) gone)

  module _ (e : Entry) (at : slice_get es d ≡ Some e) (r : Bool) (is : r ≡ is_declared_in s e) where
    declared_as : is_declared_at s es d ≡ r
    declared_as = ap (λ o. option_map_or (is_declared_in s) o false) at ∙ sym is

    pub not_declared : r ≡ false → None ≡ find (is_declared_at s es) (listed (Some d))
    not_declared off = found_so false (declared_as ∙ off)

    pub declared_there : r ≡ true → Some d ≡ find (is_declared_at s es) (listed (Some d))
    declared_there on = found_so true (declared_as ∙ on)
