-- The rows of the classes, from the entries of their names.
use Rattle.std.specs.Prelude.{Some, None, nat_eq, slice_get}
use Rattle.std.specs.Global.{Vec}
use Rattle.std.specs.Option.{option_map, option_map_or}
use Rattle.std.proofs.Common.{◌≡◌, ℕ, ◌+◌, ◌<◌, ◌≤◌, true, false, List, [], ◌∷◌, ◌++◌, map, length, take, get_or, set, refl, sym, ◌∙◌, ap, subst, inl, inr, arith}
use Rattle.std.proofs.lemmas.Bool.{and_from, and_parts, cases_eq, true≢false}
use Rattle.std.proofs.lemmas.List.{take_more, take_all, map-append, length-map, length-take-le}
use Rattle.std.proofs.lemmas.Option.{get_or_from_slice_get, same_Some, slice_get-map, slice_get_within}
use Rattle.cil_base.specs.Places.{at_or_last, get_at, get_contains, get_set_other, get_set_same}
use Rattle.cil_base.specs.declared.bytes.Bytes.{Bytes}
use Rattle.cil_syntax.specs.declared.kind.Kind.{Kind}
use Rattle.cil_syntax.specs.declared.kind.Kind.TheVariants as kinds
use Rattle.cil_names.specs.declared.entry.Entry.{Entry}
use Rattle.cil_known.specs.declared.numbers.Sections.{Sections}
use Rattle.cil_macros.specs.blocks.Space.{Space}
use Rattle.cil_names.specs.Entries.{is_declared_in}
use Rattle.cil_macros.specs.Item.{OptSet}
use Rattle.cil_known.specs.Numbers.{AreApart, AreNumbers, has_section, names_of, spelled_of}
use Rattle.cil_names.specs.Symbols.{is_of}
use Rattle.cil_syntax.specs.Kinds.{kind_number}
use Rattle.cil_names.specs.Unresolved.{listed_at}
use Rattle.cil_classes.specs.ClassRows.{AreClassEntries, AreListed, AreRowsOf}
use Rattle.cil_classes.specs.declared.row.Class.{Class}
use Rattle.cil_base.proofs.NameSearches.{number_is}

-- ---- what is listed for an entry

pub none_listed : (lists : List (Vec Bytes)) (d : ℕ) → slice_get lists d ≡ None → listed_at lists d ≡ []
none_listed lists d e = ap (λ o. option_map_or (λ (v : Vec Bytes). v.items) o []) e

pub some_listed : (lists : List (Vec Bytes)) (d : ℕ) (v : Vec Bytes) → slice_get lists d ≡ Some v → listed_at lists d ≡ v.items
some_listed lists d v e = ap (λ o. option_map_or (λ (v : Vec Bytes). v.items) o []) e

-- ---- the entries of the classes

class_kind : (k : Kind) → nat_eq (kind_number k) 7 ≡ true → k ≡ kinds.Class
class_kind kinds.Class e = refl
class_kind k e = absurd cc

pub class_parts : (s : OptSet) (e : Entry) → is_of s kinds.Class e ≡ true → (e.kind ≡ kinds.Class) × (is_declared_in s e ≡ true)
class_parts s e is =
    let (kind, live) = and_parts (nat_eq (kind_number e.kind) 7) (is_declared_in s e) is in (class_kind e.kind kind, live)

pub class_from : (s : OptSet) (e : Entry) → e.kind ≡ kinds.Class → is_declared_in s e ≡ true → is_of s kinds.Class e ≡ true
class_from s e kind live = and_from (nat_eq (kind_number e.kind) 7) (is_declared_in s e) (ap (λ k. nat_eq (kind_number k) 7) kind) live

module _ (ss : List Space) (es : List Entry) (s : OptSet) (n : Sections) (numbers : List ℕ) (are : AreNumbers ss es s (names_of n) numbers) where
  -- the number of a class is that of its name
  pub class_named : (d : ℕ) (e : Entry) → slice_get es d ≡ Some e → is_of s kinds.Class e ≡ true → slice_get n.classes.items (get_or numbers d 0) ≡ Some (spelled_of ss e)
  class_named d e at is =
      let (kind, live) = class_parts s e is in
      subst (λ k. slice_get (names_of n k) (get_or numbers d 0) ≡ Some (spelled_of ss e)) kind (are.at d e at (ap has_section kind) live)

  pub class_within : (places : List ℕ) (d : ℕ) (e : Entry) → slice_get es d ≡ Some e → is_of s kinds.Class e ≡ true → length places ≡ length n.classes.items → get_or numbers d 0 < length places
  class_within places d e at is len =
      let h = slice_get_within n.classes.items (get_or numbers d 0) (spelled_of ss e) (class_named d e at is) in omega (arith, h, len)

  module _ (apart : AreApart es s numbers) (d : ℕ) (e : Entry) (at : slice_get es d ≡ Some e) where
    pub not_noted : (places : List ℕ) → is_of s kinds.Class e ≡ false → AreClassEntries es s numbers d places → AreClassEntries es s numbers (d + 1) places
    not_noted places isnt so k f below bt is =
        elim (cases_eq k d) [
          | inl same ↦ absurd (true≢false (sym is ∙ ap (is_of s kinds.Class) (same_Some _ _ (sym bt ∙ ap (slice_get es) same ∙ at)) ∙ isnt))
          | inr differ ↦ so k f (omega (arith, below, differ)) bt is
        ]

    pub noted : (places : List ℕ) → length places ≡ length n.classes.items → is_of s kinds.Class e ≡ true → AreClassEntries es s numbers d places
        → AreClassEntries es s numbers (d + 1) (set places (get_or numbers d 0) d)
    noted places len is so k f below bt isf =
        elim (cases_eq k d) [
          | inl same ↦ ap (λ j. slice_get (set places (get_or numbers d 0) d) (get_or numbers j 0)) same ∙ get_set_same places (get_or numbers d 0) d (class_within places d e at is len) ∙ ap Some (sym same)
          | inr differ ↦
              let (kind, live) = class_parts s e is in
              let (kf, livef) = class_parts s f isf in
              get_set_other places (get_or numbers d 0) (get_or numbers k 0) d
              (λ one. differ (apart k d f e bt at (kf ∙ sym kind) (ap has_section kf) livef live one))
              ∙ (so k f (omega (arith, below, differ)) bt isf)
        ]

  -- ---- the rows

  name_at : (rows : List Class) (k : ℕ) (row : Class) → map (λ (r : Class). r.name) rows ≡ n.classes.items → slice_get rows k ≡ Some row → slice_get n.classes.items k ≡ Some row.name
  name_at rows k row named at = ap (λ l. slice_get l k) (sym named) ∙ slice_get-map (λ (r : Class). r.name) rows k ∙ ap (option_map (λ r. r.name)) at

  pub rows_are : (places : List ℕ) (lists : List (Vec Bytes)) (rows : List Class) → AreClassEntries es s numbers (length es) places → AreListed n.classes.items places lists rows
      → AreRowsOf ss es s lists n.classes.items rows
  rows_are places lists rows noted_all listed = record {
    named = listed.named;
    each = λ k row at.
        let name_here = name_at rows k row listed.named at in
        let sorted = are.lists kinds.Class refl in
        let among = (sorted.members row.name).0 (get_contains n.classes.items k row.name name_here) in
        let (d, below_d, bt) = get_at es among.entry among.among in
        let is = class_from s among.entry among.of_kind among.live in
        let number : get_or numbers d 0 ≡ k =
        (number_is n.classes.items row.name k name_here sorted.rising).only (get_or numbers d 0) (class_named d among.entry bt is ∙ ap Some among.spelled) in
        let place : get_or places k 0 ≡ d =
        get_or_from_slice_get places k d 0 (ap (slice_get places) (sym number) ∙ noted_all d among.entry (slice_get_within es d among.entry bt) bt is) in
        record {
          number = d;
          entry = among.entry;
          at = bt;
          is_class = is;
          spelled = among.spelled;
          listed = listed.each k row at ∙ ap (listed_at lists) place;
        };
  }

-- ---- row by row

pub listed_begun : (names : List (List ℕ)) (places : List ℕ) (lists : List (Vec Bytes)) (rows : List Class) → rows ≡ [] → AreListed (take 0 names) places lists rows
listed_begun [] places lists rows e = record { named = ap (map (λ row. row.name)) e; each = λ n row got. absurd (let f : None ≡ Some row = ap (λ xs. slice_get xs n) (sym e) ∙ got in cc) }
listed_begun (x ∷ xs) places lists rows e = record { named = ap (map (λ row. row.name)) e; each = λ n row got. absurd (let f : None ≡ Some row = ap (λ xs. slice_get xs n) (sym e) ∙ got in cc) }

pub listed_more : (names : List (List ℕ)) (places : List ℕ) (lists : List (Vec Bytes)) (i : ℕ) (name : List ℕ) (row : Class) (old new : List Class) → i < length names
    → name ≡ get_or names i name → row.name ≡ name → row.permissions ≡ listed_at lists (get_or places i 0) → new ≡ old ++ row ∷ []
    → AreListed (take i names) places lists old → AreListed (take (i + 1) names) places lists new
listed_more names places lists i name row old new within at named permissions push are =
    let count : length old ≡ i =
    (let a = length-map old (λ (r : Class). r.name) in let b = ap length are.named in let c = length-take-le i names (omega (arith, within)) in omega (arith, a, b, c)) in
    record {
      named =
          ap (map (λ r. r.name)) push ∙ map-append (λ r. r.name) old (row ∷ []) ∙ ap (λ z. z ++ row.name ∷ []) are.named
          ∙ ap (λ z. take i names ++ z ∷ []) (named ∙ at) ∙ sym (take_more names i name within);
      each = λ n r got. elim (at_or_last old row r n (ap (λ xs. slice_get xs n) (sym push) ∙ got)) [
        | inl h ↦ are.each n r h
        | inr h ↦ subst (λ (z : Class). z.permissions ≡ listed_at lists (get_or places n 0)) h.1 (permissions ∙ ap (λ k. listed_at lists (get_or places k 0)) (sym (h.0 ∙ count)))
      ];
    }

pub listed_all : (names : List (List ℕ)) (places : List ℕ) (lists : List (Vec Bytes)) (i : ℕ) (rows : List Class) → length names ≤ i → AreListed (take i names) places lists rows
    → AreListed names places lists rows
listed_all names places lists i rows over are = subst (λ ns. AreListed ns places lists rows) (take_all i names over) are
