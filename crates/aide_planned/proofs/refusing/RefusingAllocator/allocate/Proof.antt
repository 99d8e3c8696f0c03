-- The plan is asked first: where it refuses, the answer is `Err`, otherwise the inner allocator's. Assumes `Logic`.
use Rattle.std.proofs.Common.{◌≡◌, ℕ, true, false, [], ◌∷◌, Ok, Err, refl, w64}
use Rattle.std.proofs.raw_atomic.Walks.{proved, leaves}
use Rattle.std.proofs.VecSteps.Shapes.{after}
use Rattle.std.proofs.alloc.Calls.{Al, token, Answer, answer_val, Answer-typed, Answer-Ok, Answer-err, Takes, at_takes}
use Rattle.std.proofs.alloc.Calls.{Answered, Takes-goes, Takes-gives, answers}
use mir.Syntax.{Args, Fn, a_type, dnil, dcons}
use mir.Val.{vint, vptr}
use mir.MapTy.{inst_fn}
use base.Fml.{ftrue, froom, flft}
use prog.Memory.{size, align, capped}
use contract.BorrowLft.{◌⊑◌, ⊑_trans}
use contract.Monad.{fact}
use contract.Running.{tables}
use types.Kit.{Sq, ‵, raw, ◌⊛◌, some, later, prop, at_ret, ◌$◌, ◌∵◌, !, qed, done, move, keep, drop, use0, use1, use2}
use types.Kit.{split, split3, pick, learn, fsplit, fjoin, await, suffices, group}
use types.Part.{agg}
use types.Run.{enter, lit, addr, stop, fld, no_more, and_then, first, branches, skips, exec, returns, returns_within}
use types.ByLocal.{alloc_all, pass_all, free_all, look_at, get, through, sets, lands_as, env}
use denote.Builtin.{usize, RefOf}
use denote.Exit.{yes}
use denote.Param.{bounded}
use denote.Plain.{uint_vals, uint_Tells}
use denote.RattleType.{owns}
use denote.RawPtr.{block_ptr}
use denote.Ref.{shr_vals}
use denote.Signature.{Slot, plain, types_at}
use denote.Steps.{heard, nothing}
use denote.Triple.Call.{calls_at}
use denote.Triple.Table.{framed}
use denote.Triple.Walked.{Stays, stay_dropped, walk_of, Goes-dropped}
use Rattle.aide_planned.proofs.Parts.{Owner, inner_at, plan_at, Both, parts, Asks, at_asks, asks, Said, asked}
use Rattle.aide_planned.proofs.refusing.Plan.refuses.Met as refuses
use Rattle.aide_planned.specs.contracts.refusing.RefusingAllocator.allocate as f
use Rattle.aide_planned.specs.contracts.refusing.RefusingAllocator.allocate.Key as key
use Rattle.aide_planned.proofs.refusing.RefusingAllocator.allocate.Statement.{statement}
use Rattle.aide_planned.proofs.refusing.RefusingAllocator.allocate.Code as code

module _ (Z : Al) where
  abbrev args : Args
  args = bounded (a_type ∷ []) (Z.row, tt) (dcons Z.d (dcons Z.drops dnil))

  abbrev self : Slot 2
  self = RefOf (0 ∷ []) tt (plain (λ _. Owner Z)) (λ _. tt)

  abbrev stayed : Stays (f.ended Z.row Z.g Z.d Z.drops).signature.params (f.ended Z.row Z.g Z.d Z.drops).kept
  stayed = (stay_dropped self yes, (stay_dropped (plain (λ _. usize)) yes, (stay_dropped (plain (λ _. usize)) yes, tt)))

pub allocate_spec : {M : Type 1} → statement M
allocate_spec 𝓤 𝓛 𝓜 𝓡 wired B laws g d drops met _ =
    let Z : Al = record { row = B; laws = laws; g = g; d = d; drops = drops } in
    let T = f.ended B g d drops in
    let c = f.clauses B g d drops 𝓛 𝓜.mem 𝓡.returns in
    let W = walk_of 𝓛 T (stayed Z) c in
    let 𝓣 = tables 𝓤 𝓛.H 𝓜 𝓡 𝓡.env in
    let here : Fn = inst_fn (args Z) code.function in
    proved 𝓛 T (stayed Z) c 𝓜 𝓡 (
      Goes-dropped 𝓛 2 (self Z) yes (λ κs x w. refl),
      (Goes-dropped 𝓛 2 (plain (λ _. usize)) yes (λ κs x w. refl), (Goes-dropped 𝓛 2 (plain (λ _. usize)) yes (λ κs x w. refl), tt)),
    )
    (key.name (args Z)) here (code.unfolded 𝓤 𝓛.H 𝓜 𝓡 wired (B, tt) d drops)
    (λ κs. (shr_vals, (uint_vals w64, (uint_vals w64, tt)))) (λ κs. ((λ r vs s. s.0), (uint_Tells w64, (uint_Tells w64, tt))))
    (λ κs qs bounds a τ are.
    let κ = κs.0 in let q = qs.0 in
    let r = a.0 in let n : ℕ = a.1.0 in let al : ℕ = a.1.1.0 in
    let b = r.ref_ptr.0 in let o = r.ref_ptr.1 in let h = r.now.inner in
    let vs = vptr b o ∷ vint w64 n ∷ vint w64 al ∷ [] in
    let y : W.Ghost = ((κs, qs, bounds, (r, (n, (al, tt))), (shr_vals r, (vint w64 n ∷ [], (vint w64 al ∷ [], tt)))), τ) in
    let z : (Takes Z 𝓛 𝓜.mem 𝓡.returns).Ghost = at_takes Z 𝓛 𝓜.mem 𝓡.returns κ q (b, inner_at Z o) h n al τ in
    let p = at_asks 𝓛 𝓜.mem 𝓡.returns κ q r.now.plan b (plan_at Z o) in
    let Fits : Type 0 = (capped (size τ) ≡ n) × (capped (align τ) ≡ al) in
    let none : Sq 𝓛 (‵ (flft κ q) ∷ ‵ (flft κs.1.0 qs.1.0) ∷ []) (prop (W.post y (answer_val false 0 0))) =
    suffices ! _ (leaves 𝓛 T (stayed Z) c y (answer_val false 0 0) (Err (record {})) (tt, (tt, (tt, tt))) (tt, (tt, (tt, tt)))) $
    nothing ! $ move ! (1 ∷ 2 ∷ 0 ∷ []) $ group ! 3 $ nothing ! $ nothing ! $ fjoin ! $ nothing ! $ fjoin ! $ nothing ! $ fjoin ! $
    use0 𝓛 (‵ (Answer.own_val (Err (record {})) (answer_val false 0 0 ∷ []))) (Answer-err 𝓛) $
    nothing ! $ move ! (3 ∷ 2 ∷ 1 ∷ 0 ∷ []) $ group ! 4 $ done ! in
    let one : (b' o' : ℕ) → Sq 𝓛 (‵ (froom τ b' o') ∷ ‵ (token Z h τ (block_ptr b' o')) ∷ ‵ (flft κ q) ∷ ‵ (flft κs.1.0 qs.1.0) ∷ [])
    (prop (W.post y (answer_val true b' o'))) = λ b' o'.
    suffices ! _ (leaves 𝓛 T (stayed Z) c y (answer_val true b' o') (Ok (block_ptr b' o')) (tt, (tt, (tt, tt))) (tt, (tt, (tt, tt)))) $
    fjoin ! $ nothing ! $ move ! (2 ∷ 3 ∷ 0 ∷ []) $ group ! 3 $ nothing ! $ nothing ! $ fjoin ! $ nothing ! $ fjoin ! $ nothing ! $
    fjoin ! $
    use0 𝓛 (‵ (Answer.own_val (Ok (block_ptr b' o')) (answer_val true b' o' ∷ []))) (Answer-Ok 𝓛 b' o') $
    move ! (2 ∷ 1 ∷ 0 ∷ 3 ∷ []) $ group ! 4 $ done ! in
    qed 𝓛 (((‵ (flft κ q) ⊛ ‵ (flft κs.1.0 qs.1.0) ⊛ ‵ ftrue) ⊛ ‵ (owns (types_at T.signature.params κs) a y.0.4))
    ∷ (raw (fact 𝓤 (κs.1.0 ⊑ B.lives)) ⊛ raw (fact 𝓤 Fits)) ∷ []) ∵
    split ! $ split3 ! $ move ! (3 ∷ []) $ fsplit ! $ fsplit ! $ drop ! $ use1 𝓛 (Both Z 𝓛 κ r.now b o) (parts Z 𝓛 κ r.now b o) $ split ! $
    -- [inner; plan; the numbers; the tokens; nothing; the conditions]
    keep ! (6 ∷ 1 ∷ 3 ∷ 0 ∷ 4 ∷ []) $ split ! $ heard ! (κs.1.0 ⊑ B.lives) (λ le. heard ! Fits (λ fits.
    enter ! 𝓣.C 𝓣.Λ here vs _ $
    alloc_all ! (λ l. pass_all ! refl ((tt, tt), ((tt, record { fits = are.1.0.1 }), ((tt, record { fits = are.1.1.0.1 }), tt))) $
    -- [plan; its token; inner; the other token; the locals]
    sets ! (addr ! (through ! refl (fld ! refl (stop !)))) refl (tt, tt) $
    use2 𝓛 (raw ((Asks 𝓛 𝓜.mem 𝓡.returns).pre p)) (asks 𝓛 𝓜.mem 𝓡.returns κ q r.now.plan b (plan_at Z o)) $
    calls_at ! (framed 𝓤 𝓛.H 𝓜 𝓣) (Asks 𝓛 𝓜.mem 𝓡.returns)
    (refuses.met 𝓤 𝓛 𝓜 𝓡 (code.calls-aide_planned::refusing::Plan::refuses 𝓡.env wired)) p (and_then ! (get ! refl) (no_more !)) (λ u.
    use1 𝓛 (later (some (Said 𝓛 𝓜.mem 𝓡.returns κ q r.now.plan b (plan_at Z o) u)))
    (asked 𝓛 𝓜.mem 𝓡.returns κ q r.now.plan b (plan_at Z o) u) $
    await ! tt $ pick ! (λ refused. learn ! (λ is_refused. lands_as ! is_refused refl (tt, tt) $
    first ! $ branches ! (get ! refl)
    (λ _. sets ! (agg ! (no_more !)) refl (tt, tt) $
    sets ! (agg ! (and_then ! (lit ! tt) (and_then ! (get ! refl) (no_more !)))) refl (Answer-typed false 0 0) $
    returns_within ! (W.post y) refl (look_at ! 0 refl) $ free_all ! refl $ keep ! (0 ∷ 2 ∷ []) $ none)
    (λ _. skips ! $ exec ! 𝓣.C 𝓣.Λ (env here.locals l) (after 3 here.body) (at_ret _ (W.post y)) $
    sets ! (addr ! (through ! refl (fld ! refl (stop !)))) refl (tt, tt) $ move ! (1 ∷ 0 ∷ []) $
    use2 𝓛 (raw ((Takes Z 𝓛 𝓜.mem 𝓡.returns).pre z))
    (Takes-goes Z 𝓛 𝓜.mem 𝓡.returns κ q (b, inner_at Z o) h
    (⊑_trans κ κs.1.0 B.lives bounds.0 le) n al τ fits.0 fits.1 are.1.0.1 are.1.1.0.1) $
    calls_at ! (framed 𝓤 𝓛.H 𝓜 𝓣) (Takes Z 𝓛 𝓜.mem 𝓡.returns) (met.allocate drops) z
    (and_then ! (get ! refl) (and_then ! (get ! refl) (and_then ! (get ! refl) (no_more !)))) (λ v.
    use1 𝓛 (later (raw (Answered Z 𝓛 𝓜.mem 𝓡.returns h τ v) ⊛ ‵ (flft κ q)))
    (Takes-gives Z 𝓛 𝓜.mem 𝓡.returns κ q (b, inner_at Z o) h n al τ v) $ await ! tt $ split ! $
    answers Z ! 𝓜.mem 𝓡.returns h τ v
    (λ b' o' e. lands_as ! e refl (Answer-typed true b' o') $ returns ! (look_at ! 0 refl) $ free_all ! refl $ one b' o')
    (λ e. lands_as ! e refl (Answer-typed false 0 0) $ returns ! (look_at ! 0 refl) $ free_all ! refl $ none))))))))))
