-- Contents of declarations are equal where the parts behind the declared names are, at no place.
use Rattle.std.specs.Prelude.{◌↔◌, IsTrue, Some}
use Rattle.std.proofs.Common.{◌≡◌, ℕ, ◌<◌, ◌≤◌, suc, Bool, true, false, List, [], ◌∷◌, ◌++◌, length, drop, map, get_or, refl, sym, ◌∙◌, ap, subst}
use Rattle.std.proofs.Math.Seq.{drop-cons}
use Rattle.std.proofs.lemmas.Bool.{true≢false}
use Rattle.std.proofs.lemmas.List.{drop-map, drop_all, length-map, map-append}
use Rattle.std.proofs.lemmas.Simd.{map-map}
use Rattle.cil_faults.specs.declared.spot.Spot.{Spot}
use Rattle.cil_syntax.specs.declared.term.Op.{Op}
use Rattle.cil_syntax.specs.Scopes.{ScopedWord}
use Rattle.cil_syntax.specs.Terms.{Leaf, Name, Form, Term, Terms, nil, cons}
use Rattle.cil_macros.specs.declared.listed.Part as kept
use Rattle.cil_macros.specs.declared.listed.Part.TheVariants as kept_parts
use Rattle.cil_macros.specs.declared.placed_word.PlacedWord.{PlacedWord}
use Rattle.cil_macros.specs.Item.{all_replaced, replaced}
use Rattle.cil_macros.specs.Items.{Kept, all_placed, item_at, scoped_by}
use Rattle.cil_macros.specs.Listed.{Part, all_parts_of, closes, opens, part_there, parts_of, parts_there, terms_in, text, word}
use Rattle.cil_macros.specs.Placed.{Placed}
use Rattle.cil_macros.proofs.PartLemmas.{terms_in_parts}
use Rattle.cil_declare.specs.Rows.{IsNamed, bare_part, bare_parts, behind, content_at, unplaced}
use Rattle.cil_names.specs.Declarations.{Bare, bare, content_of, nowhere}

-- the two values are equal exactly where the flag is true
abbrev pub Tells : {X : Type 0} → Bool → X → X → Type 0
Tells b x y = (IsTrue b → x ≡ y) × (x ≡ y → IsTrue b)

pub tells_of : {X : Type 0} (b : Bool) (x y u v : X) → x ≡ u → y ≡ v → Tells b u v → Tells b x y
tells_of b x y u v e f tells = ((λ g. e ∙ tells.0 g ∙ sym f), (λ g. tells.1 (sym e ∙ g ∙ f)))

never_so : {X : Type 0} (x y : X) → (x ≡ y → ⊥) → Tells false x y
never_so x y differ = ((λ g. absurd (true≢false (sym g))), (λ g. absurd (differ g)))

-- ---- contents, by their parts

abbrev at_nowhere : Bare → ScopedWord
at_nowhere b = record { at = nowhere; bytes = b.bytes; sign = b.sign; scope = b.scope }

-- a content as terms that are nowhere
abbrev again : Terms Bare → Terms ScopedWord
again ts = all_replaced (λ at. at) at_nowhere ts

mutual
  unfolding parts_of replaced all_replaced

  term_unplaced : (t : Term ScopedWord) → parts_of (replaced (λ at. at) at_nowhere (replaced (λ at. nowhere) bare t)) ≡ map unplaced (parts_of t)
  term_unplaced (Leaf w) = refl
  term_unplaced (Name at bytes) = refl
  term_unplaced (Form at op ts) =
      ap (λ xs. opens nowhere op ∷ (xs ++ closes ∷ [])) (terms_unplaced ts)
      ∙ ap (λ xs. opens nowhere op ∷ xs) (sym (map-append unplaced (all_parts_of ts) (closes ∷ [])))

  -- its parts are those of the terms, at no place
  terms_unplaced : (ts : Terms ScopedWord) → all_parts_of (again (content_of ts)) ≡ map unplaced (all_parts_of ts)
  terms_unplaced nil = refl
  terms_unplaced (cons t ts) = (λ i. term_unplaced t i ++ terms_unplaced ts i) ∙ sym (map-append unplaced (parts_of t) (all_parts_of ts))

mutual
  unfolding replaced all_replaced

  term_back : (t : Term ScopedWord) → replaced (λ at. at) bare (replaced (λ at. at) at_nowhere (replaced (λ at. nowhere) bare t)) ≡ replaced (λ at. nowhere) bare t
  term_back (Leaf w) = refl
  term_back (Name at bytes) = refl
  term_back (Form at op ts) = ap (Form nowhere op) (terms_back ts)

  terms_back : (ts : Terms ScopedWord) → all_replaced (λ at. at) bare (again (content_of ts)) ≡ content_of ts
  terms_back nil = refl
  terms_back (cons t ts) = λ i. cons (term_back t i) (terms_back ts i)

module _ (ts us : Terms ScopedWord) where
  -- terms have one content exactly where they have the same parts, but for places
  same_parts : content_of ts ≡ content_of us → map unplaced (all_parts_of ts) ≡ map unplaced (all_parts_of us)
  same_parts e = sym (terms_unplaced ts) ∙ ap (λ c. all_parts_of (again c)) e ∙ terms_unplaced us

  same_content : map unplaced (all_parts_of ts) ≡ map unplaced (all_parts_of us) → content_of ts ≡ content_of us
  same_content e =
      let same : again (content_of ts) ≡ again (content_of us) =
      sym (terms_in_parts (again (content_of ts))) ∙ ap terms_in (terms_unplaced ts ∙ e ∙ sym (terms_unplaced us)) ∙ terms_in_parts (again (content_of us)) in
      sym (terms_back ts) ∙ ap (all_replaced (λ at. at) bare) same ∙ terms_back us

-- ---- the parts behind a declared name

name_parts : (at : Spot) (name : List ℕ) (more : Terms ScopedWord) → drop 1 (all_parts_of (cons (Name at name) more)) ≡ all_parts_of more
unfolding parts_of
name_parts at name more = refl

module _ (i : Kept) where
  abbrev ps : List Placed
  ps = all_placed i

  parts_behind : (k : ℕ) → IsNamed i k → (xs rest : List kept.Part) → parts_there ps xs ≡ all_parts_of (item_at i k).args → rest ≡ drop 1 xs
      → bare_parts ps rest ≡ map unplaced (all_parts_of (behind (item_at i k).args))
  parts_behind k named xs rest are is =
      sym (map-map unplaced (part_there ps) rest)
      ∙ ap (map unplaced) (
      ap (parts_there ps) is ∙ sym (drop-map (part_there ps) 1 xs) ∙ ap (drop 1) (are ∙ ap all_parts_of named.begins.1)
      ∙ name_parts named.spot named.name named.begins.0
      ∙ sym (ap (λ args. all_parts_of (behind args)) named.begins.1)
      )

  pub contents_tell : (a b : ℕ) → IsNamed i a → IsNamed i b → (xs ys one other : List kept.Part) → parts_there ps xs ≡ all_parts_of (item_at i a).args
      → parts_there ps ys ≡ all_parts_of (item_at i b).args → one ≡ drop 1 xs → other ≡ drop 1 ys
      → (same : Bool) → Tells same (bare_parts ps one) (bare_parts ps other) → Tells same (content_at i (Some a)) (content_at i (Some b))
  contents_tell a b of_a of_b xs ys one other in_a in_b is_one is_other same tells =
      let here = parts_behind a of_a xs one in_a is_one in
      let there = parts_behind b of_b ys other in_b is_other in (
        (λ t. same_content (behind (item_at i a).args) (behind (item_at i b).args) (sym here ∙ tells.0 t ∙ there)),
        (λ e. tells.1 (here ∙ same_parts (behind (item_at i a).args) (behind (item_at i b).args) e ∙ sym there)),
      )

-- ---- one part

abbrev shape : Part → ℕ
shape (word w) = 0
shape (text at bytes) = 1
shape (opens at op) = 2
shape closes = 3

abbrev bytes_in : Part → List ℕ
bytes_in (word w) = w.bytes
bytes_in (text at bytes) = bytes
bytes_in (opens at op) = []
bytes_in closes = []

abbrev bare_or : Bare → Part → Bare
bare_or d (word w) = bare w
bare_or d (text at bytes) = d
bare_or d (opens at op) = d
bare_or d closes = d

abbrev op_or : Op → Part → Op
op_or d (word w) = d
op_or d (text at bytes) = d
op_or d (opens at op) = op
op_or d closes = d

module _ (ps : List Placed) (x : kept.Part) where
  pub is_word : (w : PlacedWord) → x ≡ kept_parts.Word w → bare_part ps x ≡ unplaced (word (scoped_by ps w))
  is_word w e = ap (bare_part ps) e

  pub is_text : (at : Spot) (bytes : List ℕ) → x ≡ kept_parts.Text at bytes → bare_part ps x ≡ text nowhere bytes
  is_text at bytes e = ap (bare_part ps) e

  pub is_opens : (at : Spot) (op : Op) → x ≡ kept_parts.Opens at op → bare_part ps x ≡ opens nowhere op
  is_opens at op e = ap (bare_part ps) e

  pub is_closes : x ≡ kept_parts.Closes → bare_part ps x ≡ closes
  is_closes e = ap (bare_part ps) e

-- parts of two kinds
pub apart : (x y u : Part) → y ≡ u → (shape x ≡ shape u → ⊥) → Tells false x y
apart x y u e differ = never_so x y (λ g. differ (ap shape (g ∙ e)))

pub words_tell : (v w : ScopedWord) (y : Part) (same : Bool) → y ≡ unplaced (word w) → Tells same (bare v) (bare w) → Tells same (unplaced (word v)) y
words_tell v w y same e tells = (
  (λ t. ap (λ b. word (at_nowhere b)) (tells.0 t) ∙ sym e),
  (λ g. tells.1 (ap (bare_or (bare v)) (g ∙ e))),
)

pub texts_tell : (v w : List ℕ) (y : Part) (same : Bool) → y ≡ text nowhere w → Tells same v w → Tells same (text nowhere v) y
texts_tell v w y same e tells = ((λ t. ap (text nowhere) (tells.0 t) ∙ sym e), (λ g. tells.1 (ap bytes_in (g ∙ e))))

pub ops_tell : (o p : Op) (y : Part) (same : Bool) → y ≡ opens nowhere p → Tells same o p → Tells same (opens nowhere o) y
ops_tell o p y same e tells = ((λ t. ap (opens nowhere) (tells.0 t) ∙ sym e), (λ g. tells.1 (ap (op_or o) (g ∙ e))))

pub ends_tell : (y : Part) → y ≡ closes → Tells true closes y
ends_tell y e = ((λ t. sym e), (λ g. refl))

-- ---- parts, one after another

abbrev first_or : {Y : Type 0} → Y → List Y → Y
first_or d [] = d
first_or d (y ∷ ys) = y

abbrev others : {Y : Type 0} → List Y → List Y
others [] = []
others (y ∷ ys) = ys

module _ {X Y : Type 0} (f : X → Y) (a b : List X) where
  -- the whole is the same where the rest is
  abbrev pub IsLeft : ℕ → Type 0
  IsLeft i = (map f a ≡ map f b) ↔ (map f (drop i a) ≡ map f (drop i b))

  pub lengths_tell : (length a ≡ length b → ⊥) → Tells false (map f a) (map f b)
  lengths_tell differ = never_so (map f a) (map f b) (λ h. differ (sym (length-map a f) ∙ ap length h ∙ length-map b f))

  pub all_left : IsLeft 0
  all_left = ((λ h. h), (λ h. h))

  module _ (i : ℕ) (x y : X) (in_a : i < length a) (in_b : i < length b) (at_a : x ≡ get_or a i x) (at_b : y ≡ get_or b i y) where
    parted_a : map f (drop i a) ≡ f x ∷ map f (drop (suc i) a)
    parted_a = ap (map f) (drop-cons a i x in_a ∙ ap (λ z. z ∷ drop (suc i) a) (sym at_a))

    parted_b : map f (drop i b) ≡ f y ∷ map f (drop (suc i) b)
    parted_b = ap (map f) (drop-cons b i y in_b ∙ ap (λ z. z ∷ drop (suc i) b) (sym at_b))

    pub more_same : (same : Bool) → IsLeft i → Tells same (f x) (f y) → same ≡ true → (k : ℕ) → k ≡ suc i → IsLeft k
    more_same same left tells is k e =
        subst IsLeft (sym e) (
          (λ h. ap others (sym parted_a ∙ left.0 h ∙ parted_b)),
          (λ h. left.1 (parted_a ∙ (λ j. tells.0 is j ∷ h j) ∙ sym parted_b)),
        )

    pub here_apart : (same : Bool) → IsLeft i → Tells same (f x) (f y) → same ≡ false → Tells false (map f a) (map f b)
    here_apart same left tells is =
        never_so (map f a) (map f b) (λ h. true≢false (sym (tells.1 (ap (first_or (f x)) (sym parted_a ∙ left.0 h ∙ parted_b))) ∙ is))

  pub none_left : (i : ℕ) → length a ≤ i → length b ≤ i → IsLeft i → Tells true (map f a) (map f b)
  none_left i in_a in_b left = ((λ h. left.1 (ap (map f) (drop_all i a in_a ∙ sym (drop_all i b in_b)))), (λ h. refl))
