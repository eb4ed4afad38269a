-- The walk over the terms of a statement.
use Rattle.std.specs.Prelude.{Contains, IfOk, OnOk, Option, Result, Ok, drop, map, length}
use Rattle.std.proofs.Common.{◌≡◌, ◌↔◌, ◌⊎◌, ℕ, zero, suc, ◌+◌, ◌<◌, ◌≤◌, true, false, List, [], ◌∷◌, ◌++◌, get_or, if◌then◌else◌, refl, sym, ◌∙◌, ap, subst, inl, inr, arith}
use Rattle.std.proofs.lemmas.Bool.{true≢false}
use Rattle.std.proofs.lemmas.List.{append_assoc, map-append}
use Rattle.std.proofs.lemmas.List.Elements.{Contains-append_cases, Contains-append_left, Contains-append_right}
use Rattle.std.proofs.lemmas.Simd.{map-map}
use Rattle.std.specs.declared.alloc.Global.{Global}
use Rattle.std.specs.declared.vec.Vec.{Vec}
use Rattle.cil_base.specs.Lists.{contains_cases, contains_here, contains_none}
use Rattle.cil_base.specs.declared.bytes.Bytes.{Bytes}
use Rattle.cil_faults.specs.Namespaces.{Namespace}
use Rattle.cil_faults.specs.Reported.{fault_at}
use Rattle.cil_faults.specs.declared.code.FaultCode.TheVariants as causes
use Rattle.cil_faults.specs.declared.fault.Fault.{Fault}
use Rattle.cil_faults.specs.Spots.{spot_at}
use Rattle.cil_faults.specs.declared.spot.Spot.{Spot}
use Rattle.cil_syntax.specs.declared.term.LookedUp.{LookedUp}
use Rattle.cil_syntax.specs.declared.term.Op.{Op}
use Rattle.cil_syntax.specs.declared.term.Op.TheVariants as ops
use Rattle.cil_syntax.specs.declared.term.Term as rust
use Rattle.cil_syntax.specs.declared.term.Term.TheVariants as variants
use Rattle.cil_syntax.specs.declared.term.Word.{Word}
use Rattle.cil_syntax.specs.Forms.{is_class_list}
use Rattle.cil_syntax.specs.Said.{all_said, said_of, word_in}
use Rattle.cil_syntax.proofs.SaidLemmas.{form_said, leaf_said, name_said}
use Rattle.cil_syntax.specs.Scopes.{ScopedWord}
use Rattle.cil_syntax.specs.Terms.{Term, Leaf, Name, Form, Terms, nil, cons}
use Rattle.cil_macros.specs.declared.listed.Part as kept_part
use Rattle.cil_macros.specs.Item.{OptSet, all_replaced, all_words_in, replaced}
use Rattle.cil_macros.specs.Listed.{Part, all_parts_of, closes, opens, parts_of, parts_there, part_there, text, word}
use Rattle.cil_macros.specs.ListTerms.{AreAlike, IsAlike}
use Rattle.cil_macros.specs.Placed.{Placed}
use Rattle.cil_names.specs.Resolves.{Word as AWord, all_wanted_in, wanted_in, words_of_class}
use Rattle.cil_known.specs.declared.known.Known.{Known}
use Rattle.cil_known.specs.Known.{enabled_in, value_in}
use Rattle.cil_mls.specs.attrs.Plain.{are_plain}
use Rattle.cil_mls.proofs.attrs_lemmas.PlainLemmas.{all_plain_wanted}
use Rattle.cil_ranges.specs.declared.own.Judged.TheVariants as judged
use Rattle.cil_ranges.specs.declared.walk.Ahead.{Ahead}
use Rattle.cil_ranges.specs.declared.walk.Walk.{Walk}
use Rattle.cil_ranges.specs.Inside.{IsInside, here, later, within}
use Rattle.cil_ranges.specs.LevelFaults.{IsBackwards, IsFaultInside, IsTurned, IsUnpermitted, TermFault, categories_turned, level_category, levels_turned}
use Rattle.cil_ranges.specs.Levels.{Ground}
use Rattle.cil_ranges.specs.Reading.{AreAhead, AreRead, HaveMore, Judges, judged_as}
use Rattle.cil_ranges.specs.Walked.{IsOpened, IsWalked, WalksForm, WalksTerm, WalksTerms, placed_in, space_in}
use Rattle.cil_ranges.proofs.AlikeLemmas.{all_wanted_alike, all_words_alike, cons_alike, form_alike, leaf_alike, name_alike, none_alike, wanted_alike}

-- ---- faults that are added

pub none_more : (old : List Fault) (P : Fault → Type 0) → ((f : Fault) → P f → ⊥) → HaveMore old old P
none_more old P none f = (λ c. inl c, λ s. elim s [ inl c ↦ c | inr p ↦ absurd (none f p) ])

pub one_more : (old new : List Fault) (x : Fault) (P : Fault → Type 0) → new ≡ old ++ x ∷ [] → ((f : Fault) → P f → f ≡ x) → P x → HaveMore old new P
one_more old new x P push is p f = (
  λ c. elim (Contains-append_cases old (x ∷ []) f (subst (λ (l : List Fault). Contains l f) push c)) [
    | inl o ↦ inl o
    | inr e ↦ elim (contains_cases f x [] e) [ inl s ↦ inr (subst P s p) | inr none ↦ absurd (contains_none f none) ]
  ],
  λ s. subst (λ (l : List Fault). Contains l f) (sym push) (elim s [
    | inl o ↦ Contains-append_left old (x ∷ []) f o
    | inr q ↦ Contains-append_right old (x ∷ []) f (subst (Contains (x ∷ [])) (sym (is f q)) (contains_here x []))
  ]),
)

pub then_more : (old mid new : List Fault) (P Q R : Fault → Type 0) → HaveMore old mid P → HaveMore mid new Q → ((f : Fault) → R f ↔ (P f ⊎ Q f)) → HaveMore old new R
then_more old mid new P Q R first second both f = (
  λ c. elim ((second f).0 c) [
    | inl m ↦ elim ((first f).0 m) [ inl o ↦ inl o | inr p ↦ inr ((both f).1 (inl p)) ]
    | inr q ↦ inr ((both f).1 (inr q))
  ],
  λ s. elim s [
    | inl o ↦ (second f).1 (inl ((first f).1 (inl o)))
    | inr r ↦ elim ((both f).0 r) [ inl p ↦ (second f).1 (inl ((first f).1 (inr p))) | inr q ↦ (second f).1 (inr q) ]
  ],
)

-- ---- what is inside

module _ {L : Type 0} (t : Term L) where
  none_inside : (ts : Terms L) → IsInside t ts → ts ≡ nil → ⊥
  none_inside ts (here us) e = let f : cons t us ≡ nil = e in cc
  none_inside ts (later u us i) e = let f : cons u us ≡ nil = e in cc
  none_inside ts (within at op vs us p i) e = let f : cons (Form at op vs) us ≡ nil = e in cc

  inside_apart : (ts : Terms L) → IsInside t ts → (u : Term L) (us : Terms L) → ts ≡ cons u us → IsInside t (cons u nil) ⊎ IsInside t us
  inside_apart ts (here vs) u us e = let f : cons t vs ≡ cons u us = e in let same : t ≡ u = cc in inl (subst (λ z. IsInside t (cons z nil)) same (here nil))
  inside_apart ts (later v vs i) u us e = let f : cons v vs ≡ cons u us = e in let same : vs ≡ us = cc in inr (subst (IsInside t) same i)
  inside_apart ts (within at op ws vs p i) u us e =
      let f : cons (Form at op ws) vs ≡ cons u us = e in let same : Form at op ws ≡ u = cc in inl (subst (λ z. IsInside t (cons z nil)) same (within at op ws nil p i))

  inside_front : (ts : Terms L) → IsInside t ts → (u : Term L) → ts ≡ cons u nil → (us : Terms L) → IsInside t (cons u us)
  inside_front ts (here vs) u e us = let f : cons t vs ≡ cons u nil = e in let same : t ≡ u = cc in subst (λ z. IsInside t (cons z us)) same (here us)
  inside_front ts (later v vs i) u e us = let f : cons v vs ≡ cons u nil = e in let same : vs ≡ nil = cc in absurd (none_inside vs i same)
  inside_front ts (within at op ws vs p i) u e us =
      let f : cons (Form at op ws) vs ≡ cons u nil = e in let same : Form at op ws ≡ u = cc in subst (λ z. IsInside t (cons z us)) same (within at op ws us p i)

  -- in one term: it itself, or what is inside of its parts
  abbrev IsFormOver : Term L → Type 0
  IsFormOver u = (at : Spot) × (op : Op) × (ws : Terms L) × (u ≡ Form at op ws) × (is_class_list op ≡ false) × IsInside t ws

  inside_one : (ts : Terms L) → IsInside t ts → (u : Term L) → ts ≡ cons u nil → (t ≡ u) ⊎ IsFormOver u
  inside_one ts (here vs) u e = let f : cons t vs ≡ cons u nil = e in inl cc
  inside_one ts (later v vs i) u e = let f : cons v vs ≡ cons u nil = e in let same : vs ≡ nil = cc in absurd (none_inside vs i same)
  inside_one ts (within at op ws vs p i) u e = let f : cons (Form at op ws) vs ≡ cons u nil = e in let same : u ≡ Form at op ws = cc in inr (at, op, ws, same, p, i)

-- ---- what is wrong inside

module _ (s : OptSet) (g : Ground) (space : Namespace) (f : Fault) where
  pub none_wrong : IsFaultInside s g space nil f → ⊥
  none_wrong h = none_inside h.term nil h.inside refl

  pub wrong_apart : (u : Term ScopedWord) (us : Terms ScopedWord) → IsFaultInside s g space (cons u us) f ↔ (IsFaultInside s g space (cons u nil) f ⊎ IsFaultInside s g space us f)
  wrong_apart u us = (
    λ h. elim (inside_apart h.term (cons u us) h.inside u us refl) [
      | inl i ↦ inl (record { term = h.term; inside = i; wrong = h.wrong })
      | inr i ↦ inr (record { term = h.term; inside = i; wrong = h.wrong })
    ],
    λ e. elim e [
      | inl h ↦ record { term = h.term; inside = inside_front h.term (cons u nil) h.inside u refl us; wrong = h.wrong }
      | inr h ↦ record { term = h.term; inside = later u us h.inside; wrong = h.wrong }
    ],
  )

  -- what is wrong is a form, and no class with its permissions
  wrong_form : (t : Term ScopedWord) → TermFault s g space f t → (at : Spot) × (op : Op) × (ts : Terms ScopedWord) × (t ≡ Form at op ts) × (is_class_list op ≡ false)
  wrong_form t (level_category at ts w is h told) = (at, ops.Level, ts, is, refl)
  wrong_form t (levels_turned at ts is h told) = (at, ops.LevelRange, ts, is, refl)
  wrong_form t (categories_turned at ts is h told) = (at, ops.Range, ts, is, refl)

  pub leaf_right : (w : ScopedWord) → IsFaultInside s g space (cons (Leaf w) nil) f → ⊥
  leaf_right w h = elim (inside_one h.term (cons (Leaf w) nil) h.inside (Leaf w) refl) [
    | inl e ↦ (let (at, op, ts, is, isnt) = wrong_form h.term h.wrong in let c : Leaf w ≡ Form at op ts = sym e ∙ is in cc)
    | inr (at, op, ws, is, p, i) ↦ (let c : Leaf w ≡ Form at op ws = is in cc)
  ]

  pub name_right : (at : Spot) (bytes : List ℕ) → IsFaultInside s g space (cons (Name at bytes) nil) f → ⊥
  name_right at bytes h = elim (inside_one h.term (cons (Name at bytes) nil) h.inside (Name at bytes) refl) [
    | inl e ↦ (let (bt, op, ts, is, isnt) = wrong_form h.term h.wrong in let c : Name at bytes ≡ Form bt op ts = sym e ∙ is in cc)
    | inr (bt, op, ws, is, p, i) ↦ (let c : Name at bytes ≡ Form bt op ws = is in cc)
  ]

  pub class_right : (at : Spot) (op : Op) (us : Terms ScopedWord) → is_class_list op ≡ true → IsFaultInside s g space (cons (Form at op us) nil) f → ⊥
  class_right at op us is_so h = elim (inside_one h.term (cons (Form at op us) nil) h.inside (Form at op us) refl) [
    | inl e ↦ (let (bt, other, ts, is, isnt) = wrong_form h.term h.wrong in
        let c : Form at op us ≡ Form bt other ts = sym e ∙ is in let same : op ≡ other = cc in true≢false (sym is_so ∙ ap is_class_list same ∙ isnt))
    | inr (bt, other, ws, is, p, i) ↦ (let c : Form at op us ≡ Form bt other ws = is in let same : op ≡ other = cc in true≢false (sym is_so ∙ ap is_class_list same ∙ p))
  ]

  pub form_wrong : (at : Spot) (op : Op) (us : Terms ScopedWord) → is_class_list op ≡ false
      → IsFaultInside s g space (cons (Form at op us) nil) f ↔ (TermFault s g space f (Form at op us) ⊎ IsFaultInside s g space us f)
  form_wrong at op us isnt = (
    λ h. elim (inside_one h.term (cons (Form at op us) nil) h.inside (Form at op us) refl) [
      | inl e ↦ inl (subst (TermFault s g space f) e h.wrong)
      | inr (bt, other, ws, is, p, i) ↦
          let c : Form at op us ≡ Form bt other ws = is in
          let same : ws ≡ us = cc in
          inr (record { term = h.term; inside = subst (IsInside h.term) same i; wrong = h.wrong })
    ],
    λ e. elim e [
      | inl own ↦ record { term = Form at op us; inside = here nil; wrong = own }
      | inr h ↦ record { term = h.term; inside = within at op us nil isnt h.inside; wrong = h.wrong }
    ],
  )

  -- ---- a form itself

  pub level_wrong : (at : Spot) (us : Terms ScopedWord) → TermFault s g space f (Form at ops.Level us) → (w : ScopedWord) × IsUnpermitted s g us w × (f ≡ fault_at causes.LevelCategory w.at space w.bytes)
  level_wrong at us h = by (Form at ops.Level us) h refl where
    by : (t : Term ScopedWord) → TermFault s g space f t → t ≡ Form at ops.Level us → (w : ScopedWord) × IsUnpermitted s g us w × (f ≡ fault_at causes.LevelCategory w.at space w.bytes)
    by t (level_category bt ts w is u told) e = let c : Form bt ops.Level ts ≡ Form at ops.Level us = sym is ∙ e in let same : ts ≡ us = cc in (w, subst (λ z. IsUnpermitted s g z w) same u, told)
    by t (levels_turned bt ts is u told) e = absurd (let c : Form bt ops.LevelRange ts ≡ Form at ops.Level us = sym is ∙ e in cc)
    by t (categories_turned bt ts is u told) e = absurd (let c : Form bt ops.Range ts ≡ Form at ops.Level us = sym is ∙ e in cc)

  pub levels_wrong : (at : Spot) (us : Terms ScopedWord) → TermFault s g space f (Form at ops.LevelRange us) → IsTurned s g us × (f ≡ fault_at causes.RangeOrder at space [])
  levels_wrong at us h = by (Form at ops.LevelRange us) h refl where
    by : (t : Term ScopedWord) → TermFault s g space f t → t ≡ Form at ops.LevelRange us → IsTurned s g us × (f ≡ fault_at causes.RangeOrder at space [])
    by t (level_category bt ts w is u told) e = absurd (let c : Form bt ops.Level ts ≡ Form at ops.LevelRange us = sym is ∙ e in cc)
    by t (levels_turned bt ts is u told) e =
        let c : Form bt ops.LevelRange ts ≡ Form at ops.LevelRange us = sym is ∙ e in
        let same : ts ≡ us = cc in let there : bt ≡ at = cc in (subst (IsTurned s g) same u, told ∙ ap (λ z. fault_at causes.RangeOrder z space []) there)
    by t (categories_turned bt ts is u told) e = absurd (let c : Form bt ops.Range ts ≡ Form at ops.LevelRange us = sym is ∙ e in cc)

  pub categories_wrong : (at : Spot) (us : Terms ScopedWord) → TermFault s g space f (Form at ops.Range us) → IsBackwards s g us × (f ≡ fault_at causes.RangeOrder at space [])
  categories_wrong at us h = by (Form at ops.Range us) h refl where
    by : (t : Term ScopedWord) → TermFault s g space f t → t ≡ Form at ops.Range us → IsBackwards s g us × (f ≡ fault_at causes.RangeOrder at space [])
    by t (level_category bt ts w is u told) e = absurd (let c : Form bt ops.Level ts ≡ Form at ops.Range us = sym is ∙ e in cc)
    by t (levels_turned bt ts is u told) e = absurd (let c : Form bt ops.LevelRange ts ≡ Form at ops.Range us = sym is ∙ e in cc)
    by t (categories_turned bt ts is u told) e =
        let c : Form bt ops.Range ts ≡ Form at ops.Range us = sym is ∙ e in
        let same : ts ≡ us = cc in let there : bt ≡ at = cc in (subst (IsBackwards s g) same u, told ∙ ap (λ z. fault_at causes.RangeOrder z space []) there)

-- ---- a list that is ahead

module _ (k : Known) (f : Word → ScopedWord) (ps : List Placed) (ts : List rust.Term) (us : Terms ScopedWord) (a : Ahead) (at : Spot) (op : Op) (o : IsOpened k f ps ts us a at op) where
  -- where no part is a class with its permissions, it asks for its words
  pub plain_read : are_plain (all_said 0 ts) ≡ true → AreRead k f 0 ts us a.words.now o.words
  plain_read plain =
      let said = all_replaced (λ p. p) f (all_said 0 ts) in
      let asks : all_wanted_in us ≡ map AWord (all_words_in us) =
      sym (all_wanted_alike said us o.alike) ∙ all_plain_wanted f (all_said 0 ts) plain ∙ ap (map AWord) (all_words_alike f (all_said 0 ts) said refl ∙ sym (all_words_alike f (all_said 0 ts) us o.alike)) in
      record { alike = o.alike; row = o.asks ∙ ap (λ ws. map (value_in k) ws ++ o.words) asks ∙ ap (λ ws. ws ++ o.words) (map-map (value_in k) AWord (all_words_in us)) }

  -- the word of a level is its second part
  pub named_second : (w : ScopedWord) (rest : Terms ScopedWord) → us ≡ cons (Leaf w) rest → parts_there ps a.parts.now ≡ opens at op ∷ word w ∷ (all_parts_of rest ++ o.parts)
  unfolding parts_of all_parts_of
  named_second w rest says = o.says ∙ ap (λ vs. opens at op ∷ (all_parts_of vs ++ o.parts)) says

-- the parts of terms that begin with a word
pub word_parts : (w : ScopedWord) (rest : Terms ScopedWord) → all_parts_of (cons (Leaf w) rest) ≡ word w ∷ all_parts_of rest
unfolding parts_of all_parts_of
word_parts w rest = refl

-- ---- one level, one range

module _ (s : OptSet) (g : Ground) (space : Namespace) (old new : List Fault) (at : Spot) (us : Terms ScopedWord) where
  pub level_none : ((w : ScopedWord) → IsUnpermitted s g us w → ⊥) → HaveMore old old (λ f. TermFault s g space f (Form at ops.Level us))
  level_none none = none_more old (λ f. TermFault s g space f (Form at ops.Level us)) (λ f h. let (w, u, told) = level_wrong s g space f at us h in none w u)

  pub level_one : (w : ScopedWord) → IsUnpermitted s g us w → new ≡ old ++ fault_at causes.LevelCategory w.at space w.bytes ∷ [] → HaveMore old new (λ f. TermFault s g space f (Form at ops.Level us))
  level_one w u push =
      one_more old new (fault_at causes.LevelCategory w.at space w.bytes) (λ f. TermFault s g space f (Form at ops.Level us)) push
      (λ f h.
      let (v, x, told) = level_wrong s g space f at us h in
      let c : cons (Leaf v) x.rest ≡ cons (Leaf w) u.rest = sym x.says ∙ u.says in
      let same : v ≡ w = cc in told ∙ ap (λ (z : ScopedWord). fault_at causes.LevelCategory z.at space z.bytes) same)
      (level_category at us w refl u refl)

  pub levels_none : (IsTurned s g us → ⊥) → HaveMore old old (λ f. TermFault s g space f (Form at ops.LevelRange us))
  levels_none none = none_more old (λ f. TermFault s g space f (Form at ops.LevelRange us)) (λ f h. none (levels_wrong s g space f at us h).0)

  pub levels_one : IsTurned s g us → new ≡ old ++ fault_at causes.RangeOrder at space [] ∷ [] → HaveMore old new (λ f. TermFault s g space f (Form at ops.LevelRange us))
  levels_one u push = one_more old new (fault_at causes.RangeOrder at space []) (λ f. TermFault s g space f (Form at ops.LevelRange us)) push (λ f h. (levels_wrong s g space f at us h).1) (levels_turned at us refl u refl)

  pub categories_none : (IsBackwards s g us → ⊥) → HaveMore old old (λ f. TermFault s g space f (Form at ops.Range us))
  categories_none none = none_more old (λ f. TermFault s g space f (Form at ops.Range us)) (λ f h. none (categories_wrong s g space f at us h).0)

  pub categories_one : IsBackwards s g us → new ≡ old ++ fault_at causes.RangeOrder at space [] ∷ [] → HaveMore old new (λ f. TermFault s g space f (Form at ops.Range us))
  categories_one u push = one_more old new (fault_at causes.RangeOrder at space []) (λ f. TermFault s g space f (Form at ops.Range us)) push (λ f h. (categories_wrong s g space f at us h).1) (categories_turned at us refl u refl)

-- a form that is judged as nothing has no fault of its own
pub nothing_wrong : (s : OptSet) (g : Ground) (space : Namespace) (old : List Fault) (at : Spot) (op : Op) (us : Terms ScopedWord) → (op ≡ ops.Level → ⊥) → (op ≡ ops.LevelRange → ⊥) → (op ≡ ops.Range → ⊥)
    → HaveMore old old (λ f. TermFault s g space f (Form at op us))
nothing_wrong s g space old at op us a b c = none_more old (λ f. TermFault s g space f (Form at op us)) (λ f h. by f (Form at op us) h refl) where
  by : (f : Fault) (t : Term ScopedWord) → TermFault s g space f t → t ≡ Form at op us → ⊥
  by f t (level_category bt ts w is u told) e = a (let d : Form bt ops.Level ts ≡ Form at op us = sym is ∙ e in cc)
  by f t (levels_turned bt ts is u told) e = b (let d : Form bt ops.LevelRange ts ≡ Form at op us = sym is ∙ e in cc)
  by f t (categories_turned bt ts is u told) e = c (let d : Form bt ops.Range ts ≡ Form at op us = sym is ∙ e in cc)

judged_level : (op : Op) → judged_as op ≡ judged.Level → op ≡ ops.Level
judged_level ops.Level e = refl
judged_level ops.LevelRange e = absurd (let f : judged.Levels ≡ judged.Level = e in cc)
judged_level ops.Range e = absurd (let f : judged.Categories ≡ judged.Level = e in cc)
judged_level op e = absurd (let f : judged.Nothing ≡ judged.Level = e in cc)

judged_levels : (op : Op) → judged_as op ≡ judged.Levels → op ≡ ops.LevelRange
judged_levels ops.Level e = absurd (let f : judged.Level ≡ judged.Levels = e in cc)
judged_levels ops.LevelRange e = refl
judged_levels ops.Range e = absurd (let f : judged.Categories ≡ judged.Levels = e in cc)
judged_levels op e = absurd (let f : judged.Nothing ≡ judged.Levels = e in cc)

judged_categories : (op : Op) → judged_as op ≡ judged.Categories → op ≡ ops.Range
judged_categories ops.Level e = absurd (let f : judged.Level ≡ judged.Categories = e in cc)
judged_categories ops.LevelRange e = absurd (let f : judged.Levels ≡ judged.Categories = e in cc)
judged_categories ops.Range e = refl
judged_categories op e = absurd (let f : judged.Nothing ≡ judged.Categories = e in cc)

pub as_level : (op : Op) → judged_as op ≡ judged.Level → (other : Op) → other ≡ op → other ≡ ops.Level
as_level op e other same = same ∙ judged_level op e

pub as_levels : (op : Op) → judged_as op ≡ judged.Levels → (other : Op) → other ≡ op → other ≡ ops.LevelRange
as_levels op e other same = same ∙ judged_levels op e

pub as_categories : (op : Op) → judged_as op ≡ judged.Categories → (other : Op) → other ≡ op → other ≡ ops.Range
as_categories op e other same = same ∙ judged_categories op e

pub is_nothing : (op : Op) → judged_as op ≡ judged.Nothing → (op ≡ ops.Level → ⊥) × (op ≡ ops.LevelRange → ⊥) × (op ≡ ops.Range → ⊥)
is_nothing op e = (
  λ is. let f : judged.Nothing ≡ judged.Level = sym e ∙ ap judged_as is in cc,
  λ is. let f : judged.Nothing ≡ judged.Levels = sym e ∙ ap judged_as is in cc,
  λ is. let f : judged.Nothing ≡ judged.Categories = sym e ∙ ap judged_as is in cc,
)

-- ---- what is behind

map_behind : {X Y : Type 0} (h : X → Y) (xs : List X) → map h (drop 1 xs) ≡ drop 1 (map h xs)
map_behind h [] = refl
map_behind h (x ∷ xs) = refl

pub drop_map : {X Y : Type 0} (h : X → Y) (xs : List X) (ys : List Y) → drop (length xs) (map h xs ++ ys) ≡ ys
drop_map h [] ys = refl
drop_map h (x ∷ xs) ys = drop_map h xs ys

pub part_behind : (ps : List Placed) (parts rest : List kept_part.Part) → rest ≡ drop 1 parts → (x : Part) (xs : List Part) → parts_there ps parts ≡ x ∷ xs → parts_there ps rest ≡ xs
part_behind ps parts rest cut x xs e = ap (parts_there ps) cut ∙ map_behind (part_there ps) parts ∙ ap (drop 1) e

-- ---- one term

not_class : (at : Spot) (op : Op) (us : Terms ScopedWord) → is_class_list op ≡ false → wanted_in (Form at op us) ≡ all_wanted_in us
unfolding wanted_in
not_class at op us e = ap (λ b. if b then words_of_class us else all_wanted_in us) e

module _ (w : Walk) (t : rust.Term) (a rest : Ahead) (old : List Fault) where
  pub walks_leaf : (x : LookedUp) → t ≡ variants.Leaf x → rest.words.now ≡ drop 1 a.words.now → rest.parts.now ≡ drop 1 a.parts.now → WalksTerm w a old old rest t
  unfolding replaced wanted_in parts_of
  walks_leaf x is cut_words cut_parts k g f u words parts judges ahead =
      let v = f (word_in 0 x) in
      let leaf : u ≡ Leaf v = leaf_alike v u (subst (λ z. IsAlike (replaced (λ p. p) f z) u) (ap (said_of 0) is ∙ leaf_said 0 x) ahead.alike) in
      let asks : a.words.now ≡ value_in k (AWord v) ∷ words = ahead.asks ∙ ap (λ z. map (value_in k) (wanted_in z) ++ words) leaf in
      let says : parts_there (placed_in w) a.parts.now ≡ word v ∷ parts = ahead.says ∙ ap (λ z. parts_of z ++ parts) leaf in
      record {
        behind = record { asks = cut_words ∙ ap (drop 1) asks; says = part_behind (placed_in w) a.parts.now rest.parts.now cut_parts (word v) parts says };
        more = none_more old (IsFaultInside (enabled_in k) g (space_in w) (cons u nil)) (λ h wrong. leaf_right (enabled_in k) g (space_in w) h v (subst (λ z. IsFaultInside (enabled_in k) g (space_in w) (cons z nil) h) leaf wrong));
      }

  pub walks_name : (at : ℕ) (bytes : Bytes) → t ≡ variants.Name at bytes → rest.words.now ≡ a.words.now → rest.parts.now ≡ drop 1 a.parts.now → WalksTerm w a old old rest t
  unfolding replaced wanted_in parts_of
  walks_name at bytes is cut_words cut_parts k g f u words parts judges ahead =
      let (bt, name) = name_alike (spot_at 0 at) bytes u (subst (λ z. IsAlike (replaced (λ p. p) f z) u) (ap (said_of 0) is ∙ name_said 0 at bytes) ahead.alike) in
      let asks : a.words.now ≡ words = ahead.asks ∙ ap (λ z. map (value_in k) (wanted_in z) ++ words) name in
      let says : parts_there (placed_in w) a.parts.now ≡ text bt bytes ∷ parts = ahead.says ∙ ap (λ z. parts_of z ++ parts) name in
      record {
        behind = record { asks = cut_words ∙ asks; says = part_behind (placed_in w) a.parts.now rest.parts.now cut_parts (text bt bytes) parts says };
        more = none_more old (IsFaultInside (enabled_in k) g (space_in w) (cons u nil)) (λ h wrong. name_right (enabled_in k) g (space_in w) h bt bytes (subst (λ z. IsFaultInside (enabled_in k) g (space_in w) (cons z nil) h) name wrong));
      }

  -- a class with its permissions
  pub walks_class : (op : Op) (at : ℕ) (inner : Vec rust.Term Global) → t ≡ variants.Form op at inner → is_class_list op ≡ true
      → ((f : Word → ScopedWord) → rest.words.now ≡ drop (length (wanted_in (replaced (λ p. p) f (said_of 0 t)))) a.words.now)
      → ((f : Word → ScopedWord) (u : Term ScopedWord) (xs : List Part) → IsAlike (replaced (λ p. p) f (said_of 0 t)) u → parts_there (placed_in w) a.parts.now ≡ parts_of u ++ xs → parts_there (placed_in w) rest.parts.now ≡ xs)
      → WalksTerm w a old old rest t
  unfolding replaced
  walks_class op at inner is is_so cut_words cut_parts k g f u words parts judges ahead =
      let (bt, us, form, alike) = form_alike (spot_at 0 at) op (all_replaced (λ p. p) f (all_said 0 inner.items)) u (subst (λ z. IsAlike (replaced (λ p. p) f z) u) (ap (said_of 0) is ∙ form_said 0 at op inner) ahead.alike) in
      record {
        behind = record {
          asks = cut_words f ∙ ap (λ ws. drop (length ws) a.words.now) (wanted_alike (replaced (λ p. p) f (said_of 0 t)) u ahead.alike) ∙ ap (drop (length (wanted_in u))) ahead.asks
              ∙ drop_map (value_in k) (wanted_in u) words;
          says = cut_parts f u parts ahead.alike ahead.says;
        };
        more = none_more old (IsFaultInside (enabled_in k) g (space_in w) (cons u nil))
            (λ h wrong. class_right (enabled_in k) g (space_in w) h bt op us is_so (subst (λ z. IsFaultInside (enabled_in k) g (space_in w) (cons z nil) h) form wrong));
      }

  -- any other form
  pub walks_form : (new : List Fault) (op : Op) (at : ℕ) (inner : Vec rust.Term Global) → t ≡ variants.Form op at inner → (slice : List rust.Term) → slice ≡ inner.items → is_class_list op ≡ false
      → WalksForm w a old new rest op slice → WalksTerm w a old new rest t
  unfolding replaced wanted_in parts_of
  walks_form new op at inner is slice same isnt walks k g f u words parts judges ahead =
      let (bt, us, form, alike) = form_alike (spot_at 0 at) op (all_replaced (λ p. p) f (all_said 0 inner.items)) u (subst (λ z. IsAlike (replaced (λ p. p) f z) u) (ap (said_of 0) is ∙ form_said 0 at op inner) ahead.alike) in
      let asks : a.words.now ≡ map (value_in k) (all_wanted_in us) ++ words = ahead.asks ∙ ap (λ z. map (value_in k) (wanted_in z) ++ words) form ∙ ap (λ ws. map (value_in k) ws ++ words) (not_class bt op us isnt) in
      let says : parts_there (placed_in w) a.parts.now ≡ opens bt op ∷ (all_parts_of us ++ closes ∷ parts) =
      ahead.says ∙ ap (λ z. parts_of z ++ parts) form ∙ ap (λ z. opens bt op ∷ z) (append_assoc (all_parts_of us) (closes ∷ []) parts) in
      subst (λ z. IsWalked w a old new rest k g (cons z nil) words parts) (sym form) (walks k g f us bt words parts judges isnt (subst (λ z. AreAlike (all_replaced (λ p. p) f (all_said 0 z)) us) (sym same) alike) asks says)

-- ---- a form

module _ (w : Walk) (ts : List rust.Term) (op : Op) (a inside behind rest : Ahead) (old mid new : List Fault) where
  pub form_walked : ((k : Known) (g : Ground) (f : Word → ScopedWord) (us : Terms ScopedWord) (at : Spot) (other : Op) → other ≡ op → Judges k w.judge g → IsOpened k f (placed_in w) ts us a at other
      → HaveMore old mid (λ h. TermFault (enabled_in k) g (space_in w) h (Form at other us)))
      → inside.words.now ≡ a.words.now → inside.parts.now ≡ drop 1 a.parts.now → WalksTerms w inside mid new behind ts → rest.words.now ≡ behind.words.now → rest.parts.now ≡ drop 1 behind.parts.now
      → WalksForm w a old new rest op ts
  form_walked own in_words in_parts walks out_words out_parts k g f us at words parts judges isnt alike asks says =
      let first = own k g f us at op refl judges (record { alike = alike; words = words; asks = asks; parts = closes ∷ parts; says = says }) in
      let walked = walks k g f us words (closes ∷ parts) judges (record {
        alike = alike;
        asks = in_words ∙ asks;
        says = part_behind (placed_in w) a.parts.now inside.parts.now in_parts (opens at op) (all_parts_of us ++ closes ∷ parts) says;
      }) in
      record {
        behind = record { asks = out_words ∙ walked.behind.asks; says = part_behind (placed_in w) behind.parts.now rest.parts.now out_parts closes parts walked.behind.says };
        more = then_more old mid new (λ h. TermFault (enabled_in k) g (space_in w) h (Form at op us)) (IsFaultInside (enabled_in k) g (space_in w) us)
            (IsFaultInside (enabled_in k) g (space_in w) (cons (Form at op us) nil)) first walked.more (λ h. form_wrong (enabled_in k) g (space_in w) h at op us isnt);
      }

-- ---- some terms

-- what is left: with the faults that are there, those of the terms that are ahead make all
pub record IsLeft (w : Walk) (k : Known) (g : Ground) (f : Word → ScopedWord) (ts : List rust.Term) (us : Terms ScopedWord) (words : List (Option ℕ)) (parts : List Part) (old : List Fault) (rest : Ahead) (now : List Fault) : Type 0 where
  pub left : Terms ScopedWord
  pub ahead : AreAhead k f 0 (placed_in w) ts left rest words parts
  pub more : (h : Fault) → (Contains now h ⊎ IsFaultInside (enabled_in k) g (space_in w) left h) ↔ (Contains old h ⊎ IsFaultInside (enabled_in k) g (space_in w) us h)

abbrev pub AreLeft : Walk → List rust.Term → Ahead → List Fault → ℕ → Ahead → List Fault → Type 0
AreLeft w ts a old i rest now =
    (k : Known) (g : Ground) (f : Word → ScopedWord) (us : Terms ScopedWord) (words : List (Option ℕ)) (parts : List Part) → Judges k w.judge g → AreAhead k f 0 (placed_in w) ts us a words parts
    → IsLeft w k g f (drop i ts) us words parts old rest now

dropped : (parts : List rust.Term) (i : ℕ) (d : rust.Term) → i < length parts → drop i parts ≡ get_or parts i d ∷ drop (i + 1) parts
dropped [] i d l = absurd (omega (arith, l))
dropped (t ∷ ts) zero d l = refl
dropped (t ∷ ts) (suc i) d l = let e : suc i + 1 ≡ suc (i + 1) = omega arith in dropped ts i d (omega (arith, l)) ∙ ap (λ k. get_or ts i d ∷ drop k (t ∷ ts)) (sym e)

none_behind : (parts : List rust.Term) (i : ℕ) → length parts ≤ i → drop i parts ≡ []
none_behind [] zero l = refl
none_behind [] (suc i) l = refl
none_behind (t ∷ ts) zero l = absurd (omega (arith, l))
none_behind (t ∷ ts) (suc i) l = none_behind ts i (omega (arith, l))

module _ (w : Walk) (ts : List rust.Term) (a : Ahead) (old : List Fault) where
  pub all_left : AreLeft w ts a old 0 a old
  all_left k g f us words parts judges ahead = record { left = us; ahead = ahead; more = λ h. (λ x. x, λ x. x) }

  pub one_less : (i : ℕ) (d t : rust.Term) (rest next : Ahead) (now new : List Fault) → i < length ts → t ≡ get_or ts i d → WalksTerm w rest now new next t → AreLeft w ts a old i rest now → AreLeft w ts a old (i + 1) next new
  unfolding all_replaced all_wanted_in all_parts_of
  one_less i d t rest next now new l is walks left k g f us words parts judges ahead =
      let was = left k g f us words parts judges ahead in
      let cut : drop i ts ≡ t ∷ drop (i + 1) ts = dropped ts i d l ∙ ap (λ z. z ∷ drop (i + 1) ts) (sym is) in
      let (u, vs, says, one, others) =
      cons_alike (replaced (λ p. p) f (said_of 0 t)) (all_replaced (λ p. p) f (all_said 0 (drop (i + 1) ts))) was.left (subst (λ z. AreAlike (all_replaced (λ p. p) f (all_said 0 z)) was.left) cut was.ahead.alike) in
      let asks = was.ahead.asks ∙ ap (λ z. map (value_in k) (all_wanted_in z) ++ words) says ∙ ap (λ z. z ++ words) (map-append (value_in k) (wanted_in u) (all_wanted_in vs))
      ∙ append_assoc (map (value_in k) (wanted_in u)) (map (value_in k) (all_wanted_in vs)) words in
      let parts_are = was.ahead.says ∙ ap (λ z. all_parts_of z ++ parts) says ∙ append_assoc (parts_of u) (all_parts_of vs) parts in
      let walked = walks k g f u (map (value_in k) (all_wanted_in vs) ++ words) (all_parts_of vs ++ parts) judges (record { alike = one; asks = asks; says = parts_are }) in
      record {
        left = vs;
        ahead = record { alike = others; asks = walked.behind.asks; says = walked.behind.says };
        more = λ h.
            let apart = wrong_apart (enabled_in k) g (space_in w) h u vs in (
              λ x. (was.more h).0 (elim x [
                | inl c ↦ elim ((walked.more h).0 c) [ inl o ↦ inl o | inr p ↦ inr (subst (λ z. IsFaultInside (enabled_in k) g (space_in w) z h) (sym says) (apart.1 (inl p))) ]
                | inr q ↦ inr (subst (λ z. IsFaultInside (enabled_in k) g (space_in w) z h) (sym says) (apart.1 (inr q)))
              ]),
              λ y. elim ((was.more h).1 y) [
                | inl o ↦ inl ((walked.more h).1 (inl o))
                | inr q ↦ elim (apart.0 (subst (λ z. IsFaultInside (enabled_in k) g (space_in w) z h) says q)) [ inl p ↦ inl ((walked.more h).1 (inr p)) | inr r ↦ inr r ]
              ],
            );
      }

  pub all_walked : (i : ℕ) (rest : Ahead) (now : List Fault) → length ts ≤ i → AreLeft w ts a old i rest now → WalksTerms w a old now rest ts
  unfolding all_replaced all_wanted_in all_parts_of
  all_walked i rest now over left k g f us words parts judges ahead =
      let was = left k g f us words parts judges ahead in
      let none : was.left ≡ nil = none_alike was.left (subst (λ z. AreAlike (all_replaced (λ p. p) f (all_said 0 z)) was.left) (none_behind ts i over) was.ahead.alike) in
      record {
        behind = record { asks = was.ahead.asks ∙ ap (λ z. map (value_in k) (all_wanted_in z) ++ words) none; says = was.ahead.says ∙ ap (λ z. all_parts_of z ++ parts) none };
        more = λ h. (
          λ c. (was.more h).0 (inl c),
          λ y. elim ((was.more h).1 y) [ inl c ↦ c | inr q ↦ absurd (none_wrong (enabled_in k) g (space_in w) h (subst (λ z. IsFaultInside (enabled_in k) g (space_in w) z h) none q)) ],
        );
      }

-- ---- what a call answers, said of something else

pub done : {X E : Type 0} {A B : Type 0} → (r : Result X E) → (A → B) → OnOk r A → OnOk r B
done (Ok x) h p = h p
done r h p = p

pub one_way : {X E : Type 0} {P Q : X → Type 0} → (r : Result X E) → ((x : X) → P x → Q x) → IfOk r P → IfOk r Q
one_way (Ok x) h p = h x p
one_way r h p = p

-- ---- parts behind terms

module _ (ps : List Placed) (f : Word → ScopedWord) (m : ℕ) (t : rust.Term) (u : Term ScopedWord) (xs : List Part) (parts : List kept_part.Part) (same : IsAlike (replaced (λ p. p) f (said_of m t)) u) (says : parts_there ps parts ≡ parts_of u ++ xs) where
  pub past_leaf : (x : LookedUp) → t ≡ variants.Leaf x → (rest : List kept_part.Part) → rest ≡ drop 1 parts → parts_there ps rest ≡ xs
  unfolding replaced parts_of
  past_leaf x is rest cut =
      let v = f (word_in m x) in
      let leaf : u ≡ Leaf v = leaf_alike v u (subst (λ z. IsAlike (replaced (λ p. p) f z) u) (ap (said_of m) is ∙ leaf_said m x) same) in
      part_behind ps parts rest cut (word v) xs (says ∙ ap (λ z. parts_of z ++ xs) leaf)

  pub past_name : (at : ℕ) (bytes : Bytes) → t ≡ variants.Name at bytes → (rest : List kept_part.Part) → rest ≡ drop 1 parts → parts_there ps rest ≡ xs
  unfolding replaced parts_of
  past_name at bytes is rest cut =
      let (bt, name) = name_alike (spot_at m at) bytes u (subst (λ z. IsAlike (replaced (λ p. p) f z) u) (ap (said_of m) is ∙ name_said m at bytes) same) in
      part_behind ps parts rest cut (text bt bytes) xs (says ∙ ap (λ z. parts_of z ++ xs) name)

  pub past_form : (op : Op) (at : ℕ) (inner : Vec rust.Term Global) → t ≡ variants.Form op at inner → (slice : List rust.Term) → slice ≡ inner.items → (front mid rest : List kept_part.Part) → front ≡ drop 1 parts → rest ≡ drop 1 mid
      → ((us : Terms ScopedWord) (ys : List Part) → AreAlike (all_replaced (λ p. p) f (all_said m slice)) us → parts_there ps front ≡ all_parts_of us ++ ys → parts_there ps mid ≡ ys) → parts_there ps rest ≡ xs
  unfolding replaced parts_of
  past_form op at inner is slice cut front mid rest first last past =
      let (bt, us, form, alike) = form_alike (spot_at m at) op (all_replaced (λ p. p) f (all_said m inner.items)) u (subst (λ z. IsAlike (replaced (λ p. p) f z) u) (ap (said_of m) is ∙ form_said m at op inner) same) in
      let all : parts_there ps parts ≡ opens bt op ∷ (all_parts_of us ++ closes ∷ xs) = says ∙ ap (λ z. parts_of z ++ xs) form ∙ ap (λ z. opens bt op ∷ z) (append_assoc (all_parts_of us) (closes ∷ []) xs) in
      let inside = part_behind ps parts front first (opens bt op) (all_parts_of us ++ closes ∷ xs) all in
      part_behind ps mid rest last closes xs (past us (closes ∷ xs) (subst (λ z. AreAlike (all_replaced (λ p. p) f (all_said m z)) us) (sym cut) alike) inside)

-- those of the first so many terms are behind
abbrev pub ArePast : List rust.Term → List kept_part.Part → ℕ → List kept_part.Part → Type 0
ArePast ts parts i rest =
    (ps : List Placed) (f : Word → ScopedWord) (m : ℕ) (us : Terms ScopedWord) (xs : List Part) → AreAlike (all_replaced (λ p. p) f (all_said m ts)) us → parts_there ps parts ≡ all_parts_of us ++ xs
    → (vs : Terms ScopedWord) × AreAlike (all_replaced (λ p. p) f (all_said m (drop i ts))) vs × (parts_there ps rest ≡ all_parts_of vs ++ xs)

module _ (ts : List rust.Term) (parts : List kept_part.Part) where
  pub none_past : ArePast ts parts 0 parts
  none_past ps f m us xs same says = (us, same, says)

  pub one_past : (i : ℕ) (d t : rust.Term) (rest next : List kept_part.Part) → i < length ts → t ≡ get_or ts i d
      → ((ps : List Placed) (f : Word → ScopedWord) (m : ℕ) (u : Term ScopedWord) (xs : List Part) → IsAlike (replaced (λ p. p) f (said_of m t)) u → parts_there ps rest ≡ parts_of u ++ xs → parts_there ps next ≡ xs)
      → ArePast ts parts i rest → ArePast ts parts (i + 1) next
  unfolding all_replaced all_parts_of
  one_past i d t rest next l is past left ps f m us xs same says =
      let (vs, alike, are) = left ps f m us xs same says in
      let cut : drop i ts ≡ t ∷ drop (i + 1) ts = dropped ts i d l ∙ ap (λ z. z ∷ drop (i + 1) ts) (sym is) in
      let (u, ws, both, one, others) =
      cons_alike (replaced (λ p. p) f (said_of m t)) (all_replaced (λ p. p) f (all_said m (drop (i + 1) ts))) vs (subst (λ z. AreAlike (all_replaced (λ p. p) f (all_said m z)) vs) cut alike) in
      (ws, others, past ps f m u (all_parts_of ws ++ xs) one (are ∙ ap (λ z. all_parts_of z ++ xs) both ∙ append_assoc (parts_of u) (all_parts_of ws) xs))

  pub all_past : (i : ℕ) (rest : List kept_part.Part) → length ts ≤ i → ArePast ts parts i rest → (ps : List Placed) (f : Word → ScopedWord) (m : ℕ) (us : Terms ScopedWord) (xs : List Part)
      → AreAlike (all_replaced (λ p. p) f (all_said m ts)) us → parts_there ps parts ≡ all_parts_of us ++ xs → parts_there ps rest ≡ xs
  unfolding all_replaced all_parts_of
  all_past i rest over left ps f m us xs same says =
      let (vs, alike, are) = left ps f m us xs same says in
      let none : vs ≡ nil = none_alike vs (subst (λ z. AreAlike (all_replaced (λ p. p) f (all_said m z)) vs) (none_behind ts i over) alike) in
      are ∙ ap (λ z. all_parts_of z ++ xs) none
