-- Two bodies give to one namespace exactly where a pair of seeds has them: each is one of the seeds, or is handed to its
-- namespace.
use Rattle.std.proofs.Common.{◌≡◌, ℕ, ◌<◌, true, false, List, length, refl, sym, ◌∙◌, ap, subst}
use Rattle.std.specs.Prelude.{Contains, Option, Some, None}
use Rattle.cil_syntax.specs.declared.program.Statement.{Statement}
use Rattle.cil_syntax.specs.Program.{IsNested, program_of}
use Rattle.cil_syntax.specs.Written.{Written, written_cmp, written_total}
use Rattle.cil_blocks.specs.declared.parts.Parts.{Parts}
use Rattle.cil_blocks.specs.declared.targets.Targets.{Targets}
use Rattle.cil_blocks.specs.Contents.{Target, is_abstract, is_block, is_inheriting, name_of}
use Rattle.cil_blocks.specs.Entries.{AreParts, IsWithin, nothing, parts_at, statement_at}
use Rattle.cil_blocks.specs.InheritFaults.{IsOf}
use Rattle.cil_blocks.specs.Leads as leads
use Rattle.cil_blocks.specs.Leads.{Shares, first, second}
use Rattle.cil_blocks.specs.Named.{AreAllTargets, targets_in}
use Rattle.cil_blocks.specs.Opens.{is_on_top, parts}
use Rattle.cil_blocks.specs.Seeds.{AreSeeds, IsHanded, IsNext, Pair, Reaches, at_start, bodies, body_of, body_parts, further, handed_to}
use Rattle.cil_base.specs.MadeLists.{contains_map, from_map, from_flat, contains_flat}
use Rattle.cil_base.specs.Places.{get_contains, is_there}
use Rattle.cil_base.specs.Searches.{kept_into, kept_is}
use Rattle.cil_base.specs.Rising.{tied_places}
use Rattle.cil_blocks.proofs.MemberLemmas.{block_named, named_below}
use Rattle.cil_blocks.proofs.ProgramLemmas.{tied}
use Rattle.cil_blocks.proofs.StandingWalk.{in_parts, parts_of, top_on}

on_top : (w : Written) → w.context.under ≡ None → is_on_top w ≡ true
on_top w e = ap Rattle.cil_blocks.specs.Opens.on_top_by e

module _ (ss : List Statement) (nested : IsNested ss) (ps : Parts) (ts : Targets) (are_parts : AreParts (program_of ss) ps) (are_targets : AreAllTargets (program_of ss) ts) where
  abbrev ws : List Written
  ws = program_of ss

  pub written : (i : ℕ) → i < length ws → Contains ws (statement_at ws i)
  written i h = get_contains ws i (statement_at ws i) (is_there ws i nothing h)

  -- one statement has one number
  pub one_number : (i j : ℕ) → i < length ws → j < length ws → (statement_at ws i).statement.at ≡ (statement_at ws j).statement.at → i ≡ j
  one_number i j h k e =
      tied_places Rattle.cil_syntax.specs.Written.written_cmp written_total ws i j (statement_at ws i) (statement_at ws j) nested.rising (is_there ws i nothing h) (is_there ws j nothing k)
      (tied (statement_at ws i) (statement_at ws j) e)

  pub same_number : (i j : ℕ) (w : Written) → i < length ws → j < length ws → statement_at ws i ≡ w → statement_at ws j ≡ w → i ≡ j
  same_number i j w h k e f = one_number i j h k (ap (λ (x : Written). x.statement.at) (e ∙ sym f))

  -- ---- the statements of a body

  pub part_below : (body : Option ℕ) (i : ℕ) → Contains (body_parts ps body) i → i < length ws
  part_below None i c = are_parts.top_numbers i c
  part_below (Some k) i c = are_parts.are_numbers k i c

  pub part_of : (body : Option ℕ) (i : ℕ) → IsWithin body (length ws) → Contains (body_parts ps body) i → IsOf (body_of ws body) (statement_at ws i)
  part_of None i h c =
      let k = kept_is is_on_top ws (statement_at ws i) (subst (λ xs. Contains xs (statement_at ws i)) are_parts.tops (contains_map (statement_at ws) ps.tops.items i c)) in
      top_on (statement_at ws i).context.under k.1
  part_of (Some k) i h c =
      (parts_of ws (statement_at ws k) (statement_at ws i)
      (subst (λ xs. Contains xs (statement_at ws i)) (are_parts.inside k h) (contains_map (statement_at ws) (parts_at ps k) i c))).1

  pub record IsPartOf (body : Option ℕ) (w : Written) : Type 0 where
    pub number : ℕ
    pub is_in : Contains (body_parts ps body) number
    pub is : statement_at ws number ≡ w

  pub number_of : (body : Option ℕ) (w : Written) → IsWithin body (length ws) → Contains ws w → IsOf (body_of ws body) w → IsPartOf body w
  number_of None w h c o =
      let m = from_map (statement_at ws) ps.tops.items w (subst (λ xs. Contains xs w) (sym are_parts.tops) (kept_into is_on_top ws w c (on_top w o))) in
      record { number = m.0; is_in = m.1; is = m.2 }
  number_of (Some k) w h c o =
      let m = from_map (statement_at ws) (parts_at ps k) w (subst (λ xs. Contains xs w) (sym (are_parts.inside k h)) (in_parts ws (statement_at ws k) w c o)) in
      record { number = m.0; is_in = m.1; is = m.2 }

  -- ---- what is handed on

  record IsHandedBy (a b : Option ℕ) : Type 0 where
    pub through : ℕ
    pub target : ℕ
    pub is_in : Contains (body_parts ps a) through
    pub is_target : Contains (targets_in ts through) target
    pub is : b ≡ Some target

  handed_by : (a b : Option ℕ) → IsHanded ps ts a b → IsHandedBy a b
  unfolding handed_to
  handed_by a b c =
      let f = from_flat (λ v. bodies (targets_in ts v)) (body_parts ps a) b c in
      let m = from_map Some (targets_in ts f.0) b f.2 in
      record { through = f.0; target = m.0; is_in = f.1; is_target = m.1; is = sym m.2 }

  hands : (a : Option ℕ) (v k : ℕ) → Contains (body_parts ps a) v → Contains (targets_in ts v) k → IsHanded ps ts a (Some k)
  unfolding handed_to
  hands a v k c t = contains_flat (λ x. bodies (targets_in ts x)) (body_parts ps a) v (Some k) c (contains_map Some (targets_in ts v) k t)

  -- ---- from seeds to shared namespaces

  -- what two seeds reach gives to one namespace, where they do
  abbrev pub IsSharing : Option ℕ → Option ℕ → Type 0
  IsSharing a b = IsWithin a (length ws) × IsWithin b (length ws) × Shares ws (body_of ws a) (body_of ws b)

  within_by : (b : Option ℕ) (k : ℕ) → b ≡ Some k → k < length ws → IsWithin b (length ws)
  within_by b k e h = subst (λ x. IsWithin x (length ws)) (sym e) h

  first_on : (a b c : Option ℕ) → IsSharing a b → IsHanded ps ts a c → IsSharing c b
  first_on a b c s h =
      let y = handed_by a c h in
      let i = are_targets.inheriting y.through y.target y.is_target in
      let n = are_targets.named y.through y.target y.is_target in (
        within_by c y.target y.is n.0,
        s.1,
        subst (λ x. Shares ws (body_of ws x) (body_of ws b)) (sym y.is)
            (first (body_of ws a) (body_of ws b) (statement_at ws y.through) (statement_at ws y.target) s.2 (written y.through i.0) i.1 (part_of a y.through s.0 y.is_in) n.1),
      )

  second_on : (a b c : Option ℕ) → IsSharing a b → IsHanded ps ts b c → IsSharing a c
  second_on a b c s h =
      let y = handed_by b c h in
      let i = are_targets.inheriting y.through y.target y.is_target in
      let n = are_targets.named y.through y.target y.is_target in (
        s.0,
        within_by c y.target y.is n.0,
        subst (λ x. Shares ws (body_of ws a) (body_of ws x)) (sym y.is)
            (second (body_of ws a) (body_of ws b) (statement_at ws y.through) (statement_at ws y.target) s.2 (written y.through i.0) i.1 (part_of b y.through s.1 y.is_in) n.1),
      )

  first_reached : (s t a : Option ℕ) → IsSharing s t → Reaches ps ts s a → IsSharing a t
  first_reached s t a h at_start = h
  first_reached s t a h (further x y r o) = first_on x t y (first_reached s t x h r) o

  second_reached : (s t b : Option ℕ) → IsSharing s t → Reaches ps ts t b → IsSharing s b
  second_reached s t b h at_start = h
  second_reached s t b h (further x y r o) = second_on s x y (second_reached s t x h r) o

  pub both_reached : (s t a b : Option ℕ) → IsSharing s t → Reaches ps ts s a → Reaches ps ts t b → IsSharing a b
  both_reached s t a b h r q = second_reached a t b (first_reached s t a h r) q

  next_shares : (p q : Pair) → IsSharing p.0 p.1 → IsNext ws ps ts p q → IsSharing q.0 q.1
  next_shares p q h n =
      let one = n.is_one in
      let other = n.is_other in
      let s = both_reached p.0 p.1 one.0.0.body other.0.0.body h one.0.0.reached other.0.0.reached in
      let i = named_below ws n.one one.0.1 in
      let j = named_below ws n.other other.0.1 in
      subst (λ (x : Pair). IsSharing x.0 x.1) (sym n.is) (
        i,
        j,
        leads.own (body_of ws one.0.0.body) (body_of ws other.0.0.body) (statement_at ws n.one) (statement_at ws n.other) s.2 (written n.one i) one.1.0
            (part_of one.0.0.body n.one s.0 one.0.0.is_in) one.1.1 (written n.other j) other.1.0 (part_of other.0.0.body n.other s.1 other.0.0.is_in) other.1.1 (sym n.one_name),
      )

  pub seeds_share : (p : Pair) → AreSeeds ws ps ts p → IsSharing p.0 p.1
  seeds_share p at_start = (tt, tt, leads.texts)
  seeds_share p (further x y r n) = next_shares x y (seeds_share x r) n

  -- ---- from shared namespaces to seeds

  pub record HaveSeeds (a b : Option Written) : Type 0 where
    pub pair : Pair
    pub are_seeds : AreSeeds ws ps ts pair
    pub one : Option ℕ
    pub other : Option ℕ
    pub one_reached : Reaches ps ts pair.0 one
    pub other_reached : Reaches ps ts pair.1 other
    pub is_one : body_of ws one ≡ a
    pub is_other : body_of ws other ≡ b

  pub sharing : (a b : Option Written) (h : HaveSeeds a b) → IsSharing h.one h.other
  sharing a b h = both_reached h.pair.0 h.pair.1 h.one h.other (seeds_share h.pair h.are_seeds) h.one_reached h.other_reached

  record IsHandedOn (a : Option ℕ) (c : Written) : Type 0 where
    pub body : Option ℕ
    pub is_handed : IsHanded ps ts a body
    pub is : body_of ws body ≡ Some c

  handed_on : (a : Option ℕ) (v c : Written) → IsWithin a (length ws) → Contains ws v → is_inheriting v.statement.keyword ≡ true → IsOf (body_of ws a) v
      → Target ws v c → IsHandedOn a c
  handed_on a v c h k i o t =
      let n = number_of a v h k o in
      let f = are_targets.all n.number c (part_below a n.number n.is_in) (subst (λ (x : Written). is_inheriting x.statement.keyword ≡ true) (sym n.is) i)
      (subst (λ x. Target ws x c) (sym n.is) t) in
      record { body = Some f.0; is_handed = hands a n.number f.0 n.is_in f.1; is = ap Some f.2 }

  own_seeds : (a b : Option Written) (v w : Written) → HaveSeeds a b → Contains ws v → is_block v.statement.keyword ≡ true → IsOf a v → is_abstract ws v ≡ false
      → Contains ws w → is_block w.statement.keyword ≡ true → IsOf b w → is_abstract ws w ≡ false → name_of v ≡ name_of w → HaveSeeds (Some v) (Some w)
  own_seeds a b v w h kv bv iv av kw bw iw aw e =
      let s = sharing a b h in
      let i = number_of h.one v s.0 kv (subst (λ x. IsOf x v) (sym h.is_one) iv) in
      let j = number_of h.other w s.1 kw (subst (λ x. IsOf x w) (sym h.is_other) iw) in
      let bi = subst (λ (x : Written). is_block x.statement.keyword ≡ true) (sym i.is) bv in
      let bj = subst (λ (x : Written). is_block x.statement.keyword ≡ true) (sym j.is) bw in
      record {
        pair = (Some i.number, Some j.number);
        are_seeds = further h.pair (Some i.number, Some j.number) h.are_seeds (record {
          one = i.number;
          other = j.number;
          is_one = (
            (record { body = h.one; reached = h.one_reached; is_in = i.is_in }, block_named (statement_at ws i.number).statement.keyword bi),
            (bi, subst (λ x. is_abstract ws x ≡ false) (sym i.is) av),
          );
          is_other = (
            (record { body = h.other; reached = h.other_reached; is_in = j.is_in }, block_named (statement_at ws j.number).statement.keyword bj),
            (bj, subst (λ x. is_abstract ws x ≡ false) (sym j.is) aw),
          );
          one_name = ap name_of j.is ∙ sym e ∙ ap name_of (sym i.is);
          is = refl;
        });
        one = Some i.number;
        other = Some j.number;
        one_reached = at_start;
        other_reached = at_start;
        is_one = ap Some i.is;
        is_other = ap Some j.is;
      }

  pub have_seeds : (a b : Option Written) → Shares ws a b → HaveSeeds a b
  have_seeds a b leads.texts = record {
    pair = (None, None);
    are_seeds = at_start;
    one = None;
    other = None;
    one_reached = at_start;
    other_reached = at_start;
    is_one = refl;
    is_other = refl;
  }
  have_seeds a b (leads.own c d v w s kv bv iv av kw bw iw aw e) = own_seeds c d v w (have_seeds c d s) kv bv iv av kw bw iw aw e
  have_seeds a b (first c d v t s k i o g) =
      let h = have_seeds c d s in
      let n = handed_on h.one v t (sharing c d h).0 k i (subst (λ x. IsOf x v) (sym h.is_one) o) g in
      record {
        pair = h.pair;
        are_seeds = h.are_seeds;
        one = n.body;
        other = h.other;
        one_reached = further h.one n.body h.one_reached n.is_handed;
        other_reached = h.other_reached;
        is_one = n.is;
        is_other = h.is_other;
      }
  have_seeds a b (second c d w t s k i o g) =
      let h = have_seeds c d s in
      let n = handed_on h.other w t (sharing c d h).1 k i (subst (λ x. IsOf x w) (sym h.is_other) o) g in
      record {
        pair = h.pair;
        are_seeds = h.are_seeds;
        one = h.one;
        other = n.body;
        one_reached = h.one_reached;
        other_reached = further h.other n.body h.other_reached n.is_handed;
        is_one = h.is_one;
        is_other = n.is;
      }
