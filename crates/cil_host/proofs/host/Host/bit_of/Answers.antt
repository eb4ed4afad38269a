use Rattle.std.proofs.Common.{sym}
use Rattle.cil_host.specs.Permissions.{IsPermissionOf}
use Rattle.cil_host.proofs.PermissionLemmas.{class_there, permission_back, permission_there}
use Rattle.cil_host.proofs.QueryLemmas.{fact_loaded, if_none, if_some, kept, loaded_fact}
use Rattle.cil_host.proofs.host.Host.bit_of.Goals as goal

pub returns-in_default-class_named-clause-none : goal.returns-in_default-class_named-clause-none
returns-in_default-class_named-clause-none g c = λ bit of.
    let there = fact_loaded _ _ _ _ _ (sym c.self.view_is) c.in-Some.is (IsPermissionOf c.args.class.now bit c.args.permission.now) of in
    let known = class_there _ _ _ bit _ (kept _ _ c.in-Some.is c.self.invariant.kept).compiles there in
    c.in_default-class_named.ensures.none known.0 known.1

pub returns-clause-found : goal.returns-clause-found
returns-clause-found g c =
    if_some c.permission_named.result (λ bit at.
    loaded_fact _ _ _ _ _ (sym c.self.view_is) c.in-Some.is (IsPermissionOf c.args.class.now bit c.args.permission.now)
    (permission_there _ _ (kept _ _ c.in-Some.is c.self.invariant.kept).compiles _ _ _ c.in-Some-class_named.ensures.found c.args.permission.now at))
    c.permission_named.ensures.found

pub returns-clause-none : goal.returns-clause-none
returns-clause-none g c =
    if_none c.permission_named.result (λ none bit of.
    let there = fact_loaded _ _ _ _ _ (sym c.self.view_is) c.in-Some.is (IsPermissionOf c.args.class.now bit c.args.permission.now) of in
    none bit (permission_back _ _ (kept _ _ c.in-Some.is c.self.invariant.kept).compiles _ _ _ c.in-Some-class_named.ensures.found c.args.permission.now there))
    c.permission_named.ensures.none
