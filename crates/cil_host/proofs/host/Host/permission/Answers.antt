use Rattle.std.proofs.Common.{sym}
use Rattle.cil_host.specs.Permissions.{IsPermissionOf}
use Rattle.cil_host.proofs.PermissionLemmas.{class_there, permission_back, permission_before, permission_only, permission_there}
use Rattle.cil_host.proofs.QueryLemmas.{fact_loaded, if_none, if_some, kept, loaded_fact}
use Rattle.cil_host.proofs.host.Host.permission.Goals as goal

pub returns-in_default-class_named-clause-none : goal.returns-in_default-class_named-clause-none
returns-in_default-class_named-clause-none g c = λ name of.
    let there = fact_loaded _ _ _ _ _ (sym c.self.view_is) c.in-Some.is (IsPermissionOf c.args.class.now c.args.bit name) of in
    let known = class_there _ _ _ _ name (kept _ _ c.in-Some.is c.self.invariant.kept).compiles there in
    c.in_default-class_named.ensures.none known.0 known.1

pub returns-clause-found : goal.returns-clause-found
returns-clause-found g c =
    if_some c.permission_at.result (λ name at.
    loaded_fact _ _ _ _ _ (sym c.self.view_is) c.in-Some.is (IsPermissionOf c.args.class.now c.args.bit name.now)
    (permission_there _ _ (kept _ _ c.in-Some.is c.self.invariant.kept).compiles _ _ _ c.in-Some-class_named.ensures.found name.now at))
    c.permission_at.ensures.found

pub returns-clause-none : goal.returns-clause-none
returns-clause-none g c =
    if_none c.permission_at.result (λ none name of.
    let there = fact_loaded _ _ _ _ _ (sym c.self.view_is) c.in-Some.is (IsPermissionOf c.args.class.now c.args.bit name) of in
    none name (permission_back _ _ (kept _ _ c.in-Some.is c.self.invariant.kept).compiles _ _ _ c.in-Some-class_named.ensures.found name there))
    c.permission_at.ensures.none

pub returns-clause-order : goal.returns-clause-order
returns-clause-order g c =
    if_some c.permission_at.result (λ name at.
    let compiles = (kept _ _ c.in-Some.is c.self.invariant.kept).compiles in
    let is_class = c.in-Some-class_named.ensures.found in
    record {
      only = λ other of. permission_only _ _ compiles _ _ _ is_class name.now at other
          (fact_loaded _ _ _ _ _ (sym c.self.view_is) c.in-Some.is (IsPermissionOf c.args.class.now c.args.bit other) of);
      before = λ greater other less of. permission_before _ _ compiles _ _ _ is_class name.now at greater other less
          (fact_loaded _ _ _ _ _ (sym c.self.view_is) c.in-Some.is (IsPermissionOf c.args.class.now greater other) of);
    })
    c.permission_at.ensures.found
