use Rattle.std.proofs.Common.{◌≡◌, ℕ, List, [], ◌∷◌, ap, refl}
use Rattle.cil_modset.specs.Modules.{texts_of}
use Rattle.cil_modset.specs.Rows.{joined}
use Rattle.cil_modset.proofs.InstallLemmas.{put_in, place_first, union_first}
use Rattle.cil_modset.proofs.RowLemmas.{order_none, order_first, joined_first}
use Rattle.cil_modset.proofs.rows.add_first.Goals as goal

pub returns-in_err-read-clause-order : goal.returns-in_err-read-clause-order
returns-in_err-read-clause-order c = rw c.requires.none order_none

pub returns-in_err-from_slice-clause-order : goal.returns-in_err-from_slice-clause-order
returns-in_err-from_slice-clause-order c = rw c.requires.none order_none

pub returns-in_err-push-clause-order : goal.returns-in_err-push-clause-order
returns-in_err-push-clause-order c = rw c.requires.none order_none

pub returns-in_err-push-2-clause-order : goal.returns-in_err-push-2-clause-order
returns-in_err-push-2-clause-order c = rw (c.in_err-push-2.ensures.items, c.requires.none) order_none

pub returns-clause-order : goal.returns-clause-order
returns-clause-order c = rw (c.in_ok-push-2.ensures.items, c.requires.none) (order_first c.push.new.self c.args.text.now
    (rw (c.in_ok-push.ensures.items, c.new-row.ensures.items) (ap (λ (t : List ℕ). t ∷ []) c.in_ok-from_slice.ensures.items)))

pub returns-clause-offered : goal.returns-clause-offered
returns-clause-offered c =
    let row : texts_of c.push.new.self.items ≡ c.args.text.now ∷ [] =
    rw (c.in_ok-push.ensures.items, c.new-row.ensures.items) (ap (λ (t : List ℕ). t ∷ []) c.in_ok-from_slice.ensures.items) in
    let all : joined c.push-2.new.self.items ≡ c.args.text.now ∷ [] =
    rw (c.in_ok-push-2.ensures.items, c.requires.none) (joined_first c.push.new.self c.args.text.now row) in
    put_in [] (joined c.push-2.new.self.items) c.args.text.now 0 (place_first c.args.text.now) (record { nodes = _; tree = c.in_ok-read.ensures.tree })
    (rw all (union_first c.args.text.now)) (rw all refl)
