-- The block goes back to the inner allocator. Assumes `Logic`.
use Rattle.std.proofs.Common.{◌≡◌, ℕ, List, [], ◌∷◌, refl, w64}
use Rattle.std.proofs.raw_atomic.Walks.{proved, leaves}
use Rattle.std.proofs.alloc.Calls.{Al, token, Gives, at_gives, Gives-goes, Gives-Gives}
use mir.Syntax.{Args, Fn, a_type, dnil, dcons}
use mir.Val.{Val, vunit, vint, vptr}
use mir.MapTy.{inst_fn}
use base.Logic.{fst∗, never}
use base.Fml.{ftrue, fsep, flft}
use prog.Memory.{size, align, capped}
use prog.Wp.{WpFn}
use contract.BorrowLft.{◌⊑◌, ⊑_trans}
use contract.Monad.{fact}
use contract.Running.{tables}
use types.Logic.{sem}
use types.Kit.{‵, raw, ◌⊛◌, later, given, prop, ◌$◌, ◌∵◌, !, qed, done, move, keep, drop, use1, split, split3, learn}
use types.Kit.{fsplit, fjoin, feq_i, await, regoal, suffices, group}
use types.Run.{enter, of_opd, unit_lit, addr, stop, fld, no_more, and_then, returns}
use types.ByLocal.{alloc_all, pass_all, free_all, look_at, get, through, sets, lands_as}
use denote.Builtin.{usize, RawPtr, RefOf}
use denote.Exit.{yes}
use denote.Param.{bounded}
use denote.Plain.{uint_vals, uint_Tells}
use denote.RattleType.{owns}
use denote.RawPtr.{Ptr, block_ptr, null_ptr, in_a_block, ptr_val, rawptr_vals, rawptr_Tells, room_for}
use denote.Ref.{shr_vals}
use denote.Signature.{Slot, plain, types_at}
use denote.Steps.{heard, nothing}
use denote.Triple.Call.{calls_at}
use denote.Triple.Table.{framed}
use denote.Triple.Walked.{Stays, stay_dropped, walk_of, Goes-dropped}
use Rattle.aide_planned.proofs.Parts.{Owner, inner_at, Both, parts}
use Rattle.aide_planned.specs.contracts.refusing.RefusingAllocator.deallocate as f
use Rattle.aide_planned.specs.contracts.refusing.RefusingAllocator.deallocate.Key as key
use Rattle.aide_planned.proofs.refusing.RefusingAllocator.deallocate.Statement.{statement}
use Rattle.aide_planned.proofs.refusing.RefusingAllocator.deallocate.Code as code

module _ (Z : Al) where
  abbrev args : Args
  args = bounded (a_type ∷ []) (Z.row, tt) (dcons Z.d (dcons Z.drops dnil))

  abbrev self : Slot 2
  self = RefOf (0 ∷ []) tt (plain (λ _. Owner Z)) (λ _. tt)

  abbrev stayed : Stays (f.ended Z.row Z.g Z.d Z.drops).signature.params (f.ended Z.row Z.g Z.d Z.drops).kept
  stayed = (
    stay_dropped self yes,
    (stay_dropped (plain (λ _. RawPtr)) yes, (stay_dropped (plain (λ _. usize)) yes, (stay_dropped (plain (λ _. usize)) yes, tt))),
  )

pub deallocate_spec : {M : Type 1} → statement M
deallocate_spec 𝓤 𝓛 𝓜 𝓡 wired B laws g d drops met _ =
    let Z : Al = record { row = B; laws = laws; g = g; d = d; drops = drops } in
    let T = f.ended B g d drops in
    let c = f.clauses B g d drops 𝓛 𝓜.mem 𝓡.returns in
    let W = walk_of 𝓛 T (stayed Z) c in
    let 𝓣 = tables 𝓤 𝓛.H 𝓜 𝓡 𝓡.env in
    let here : Fn = inst_fn (args Z) code.function in
    proved 𝓛 T (stayed Z) c 𝓜 𝓡 (
      Goes-dropped 𝓛 2 (self Z) yes (λ κs x w. refl),
      (
        Goes-dropped 𝓛 2 (plain (λ _. RawPtr)) yes (λ κs x w. refl),
        (Goes-dropped 𝓛 2 (plain (λ _. usize)) yes (λ κs x w. refl), (Goes-dropped 𝓛 2 (plain (λ _. usize)) yes (λ κs x w. refl), tt)),
      ),
    )
    (key.name (args Z)) here (code.unfolded 𝓤 𝓛.H 𝓜 𝓡 wired (B, tt) d drops)
    (λ κs. (shr_vals, (rawptr_vals, (uint_vals w64, (uint_vals w64, tt)))))
    (λ κs. ((λ r vs s. s.0), (rawptr_Tells, (uint_Tells w64, (uint_Tells w64, tt)))))
    (λ κs qs bounds a τ are.
    let κ = κs.0 in let q = qs.0 in
    let r = a.0 in let x : Ptr = a.1.0 in let n : ℕ = a.1.1.0 in let al : ℕ = a.1.1.1.0 in
    let b = r.ref_ptr.0 in let o = r.ref_ptr.1 in
    let Block = λ (p : Ptr). fsep (room_for τ p) (token Z r.now.inner τ p) in
    let vs = λ (p : Ptr). vptr b o ∷ ptr_val p ∷ vint w64 n ∷ vint w64 al ∷ [] in
    let y : Ptr → W.Ghost = λ p. (
      (
        κs,
        qs,
        bounds,
        (r, (p, (n, (al, tt)))),
        (shr_vals r, (rawptr_vals p, (vint w64 n ∷ [], (vint w64 al ∷ [], tt)))),
      ),
      τ,
    ) in
    let Fits : Type 0 = (capped (size τ) ≡ n) × (capped (align τ) ≡ al) in
    qed 𝓛 (((‵ (flft κ q) ⊛ ‵ (flft κs.1.0 qs.1.0) ⊛ ‵ ftrue) ⊛ ‵ (owns (types_at T.signature.params κs) a (y x).0.4))
    ∷ (raw (fact 𝓤 (κs.1.0 ⊑ B.lives)) ⊛ raw (fact 𝓤 Fits) ⊛ ‵ (Block x)) ∷ []) ∵
    split ! $ split3 ! $ move ! (3 ∷ []) $ fsplit ! $ fsplit ! $ drop ! $ use1 𝓛 (Both Z 𝓛 κ r.now b o) (parts Z 𝓛 κ r.now b o) $ split ! $
    -- [inner; plan; the numbers; the tokens; nothing; the conditions]
    keep ! (6 ∷ 3 ∷ 4 ∷ 0 ∷ []) $ split3 ! $ heard ! (κs.1.0 ⊑ B.lives) (λ le. heard ! Fits (λ fits.
    in_a_block ! x Block (fst∗ 𝓤 (never 𝓤) (sem 𝓛 (token Z r.now.inner τ null_ptr))) (λ b' o' e.
    regoal ! (λ p. prop (WpFn 𝓤 𝓛.H 𝓣.C 𝓣.Λ here (vs p) (W.post (y p)))) e refl $ fsplit ! $ move ! (0 ∷ 1 ∷ 4 ∷ []) $
    let z : (Gives Z 𝓛 𝓜.mem 𝓡.returns).Ghost = at_gives Z 𝓛 𝓜.mem 𝓡.returns κ q (b, inner_at Z o) r.now.inner b' o' n al τ in
    let goes = Gives-goes Z 𝓛 𝓜.mem 𝓡.returns κ q (b, inner_at Z o) r.now.inner
    (⊑_trans κ κs.1.0 B.lives bounds.0 le) b' o' n al τ fits.0 fits.1 are.1.1.0.1 are.1.1.1.0.1 in
    -- [the block; the right to free it; inner; the tokens]
    enter ! 𝓣.C 𝓣.Λ here (vs (block_ptr b' o')) _ $
    alloc_all ! (λ l. pass_all ! refl
    ((tt, tt), ((tt, tt), ((tt, record { fits = are.1.1.0.1 }), ((tt, record { fits = are.1.1.1.0.1 }), tt)))) $
    sets ! (addr ! (through ! refl (fld ! refl (stop !)))) refl (tt, tt) $
    group ! 4 $ use1 𝓛 (raw ((Gives Z 𝓛 𝓜.mem 𝓡.returns).pre z)) goes $
    calls_at ! (framed 𝓤 𝓛.H 𝓜 𝓣) (Gives Z 𝓛 𝓜.mem 𝓡.returns) (met.deallocate drops) z
    (and_then ! (get ! refl) (and_then ! (get ! refl) (and_then ! (get ! refl) (and_then ! (get ! refl) (no_more !))))) (λ v.
    use1 𝓛 (later (given (v ≡ vunit) (‵ (flft κ q)))) (Gives-Gives Z 𝓛 𝓜.mem 𝓡.returns κ q (b, inner_at Z o) r.now.inner b' o' n al τ v) $
    await ! tt $ learn ! (λ is_unit. lands_as ! is_unit refl (tt, tt) $
    sets ! (of_opd ! (unit_lit !)) refl (tt, tt) $ returns ! (look_at ! 0 refl) $ free_all ! refl $
    suffices ! _ (leaves 𝓛 T (stayed Z) c (y (block_ptr b' o')) vunit tt (tt, (tt, (tt, (tt, tt)))) (tt, (tt, (tt, (tt, tt))))) $
    nothing ! $ move ! (1 ∷ 2 ∷ 0 ∷ []) $ group ! 3 $
    nothing ! $ nothing ! $ fjoin ! $ nothing ! $ fjoin ! $ nothing ! $ fjoin ! $ nothing ! $ fjoin ! $
    feq_i ! (List Val) (vunit ∷ []) (vunit ∷ []) refl $ nothing ! $ move ! (3 ∷ 2 ∷ 1 ∷ 0 ∷ []) $ group ! 4 $ done !)))))))
