-- `into_raw_box` has none where the state isn't that of a handle with a macro; else what the handle owns is the
-- block's.
use Rattle.std.proofs.Common.{ℕ, List, [], ◌∷◌, ◌++◌, refl, sym, ap, ◌∙◌, subst, lit<}
use mir.Val.{Val, vptr}
use base.Logic.{SProp, ent, emp, id⊢}
use base.Fml.{ftrue}
use prog.Wp.{WpFn}
use contract.Running.{tables}
use types.Kit.{‵, raw, ◌⊛◌, at_ret, ◌$◌, ◌∵◌, !, qed, keep, drop, use0, use1, split, join, fsplit, fjoin, suffices}
use types.Kit.{done}
use types.Part.{agg, sub, whole}
use types.Run.{stop, fld, lit, of_opd, bin, no_more, and_then, first, branches, skips, exec, returns, returns_within}
use types.Run.{enter}
use types.ByLocal.{alloc_all, pass_all, free_all, look_at, get, get_in, sets, env}
use denote.Exit.{yes}
use denote.RattleType.{owns}
use denote.RawPtr.{Ptr, block_ptr, ptr_val}
use denote.Signature.{plain}
use denote.Steps.{nothing}
use denote.Triple.Walked.{Stays, stay_dropped, walk_of, says, ends_at, Goes-dropped}
use types.Match.{live}
use mir.Val.{vcons, vnil}
use lib.Dec.{eqb→eq}
use Rattle.std.proofs.BoxSteps.Form.{D, word as block_word, box_typed}
use Rattle.std.proofs.BoxSteps.Steps.{box_in}
use Rattle.std.proofs.ResultValues.{and_tt}
use Rattle.std.proofs.option.Made.{Some-of, none_of}
use Rattle.std.proofs.raw_atomic.Walks.{proved_at}
use Rattle.std.specs.Prelude.{Some, None}
use Rattle.std.specs.contracts.option.Option as option
use Rattle.mbe_c.specs.HandleOwnership.{macro_state}
use Rattle.mbe_c.proofs.HandleSteps.{E, Blk, Mac, word, word_good, big, handle_out, by_held, not_not, ptr_good}
use Rattle.mbe_c.specs.contracts.handle.MacroHandle.into_raw_box as f
use Rattle.mbe_c.proofs.handle.MacroHandle.into_raw_box.Statement.{statement}
use Rattle.mbe_c.proofs.handle.MacroHandle.into_raw_box.Code as code

abbrev stayed : Stays f.ended.signature.params f.ended.kept
stayed = (stay_dropped (plain (λ _. Mac)) yes, tt)

pub into_raw_box_spec : {M : Type 1} → statement M
into_raw_box_spec 𝓤 𝓛 𝓜 𝓡 wired =
    let c = f.clauses 𝓛 𝓜.mem 𝓡.returns in let 𝓣 = tables 𝓤 𝓛.H 𝓜 𝓡 𝓡.env in let fn = code.function in
    proved_at 𝓛 f.ended stayed c 𝓜 𝓡 (Goes-dropped 𝓛 0 (plain (λ _. Mac)) yes (λ κs x w. refl), tt)
    f.Key.name fn (code.unfolded 𝓤 𝓛.H 𝓜 𝓡 wired) (λ z are.
    let Post : Val → SProp 𝓤 = (walk_of 𝓛 f.ended stayed c).post z in
    let Run : List Val → SProp 𝓤 = λ ws. WpFn 𝓤 𝓛.H 𝓣.C 𝓣.Λ fn ws Post in
    let d = z.0.3.0 in
    qed 𝓛 ((‵ ftrue ⊛ ‵ (owns (Mac ∷ []) z.0.3 z.0.4)) ∷ raw (emp 𝓤) ∷ []) ∵ split ! $ drop ! $ fsplit ! $
    handle_out ! d z.0.4.0 (λ h ws fits good. by_held ! d.alloc d.at d.state d.held
    -- it has none: [its allocator; nothing; nothing]
    (λ is other. keep ! [] $ use0 𝓛 (‵ ((option.the_row Blk).own_val None (live 0 vnil ∷ []))) (none_of 𝓛 Blk) $
    let w : Val = word (ptr_val d.at) d.state h in
    suffices ! (Run (w ∷ [])) (subst (λ (us : List Val). ent 𝓤 (Run (w ∷ [])) (Run us)) (sym (λ i. ws i ++ []))
    (id⊢ 𝓤 (Run (w ∷ [])))) $
    enter ! 𝓣.C 𝓣.Λ fn (w ∷ []) Post $
    alloc_all ! (λ l. pass_all ! refl (word_good (ptr_val d.at) d.state h (ptr_good d.at) fits good, tt) $
    sets ! (of_opd ! (get_in ! (fld ! refl (stop !)) (sub ! 0 refl (whole !)))) refl (ptr_good d.at) $
    sets ! (of_opd ! (get_in ! (fld ! refl (stop !)) (sub ! 1 refl (whole !)))) refl (tt, record { fits = fits }) $
    sets ! (of_opd ! (get_in ! (fld ! refl (stop !)) (sub ! 2 refl (whole !)))) refl good $
    sets ! (bin ! (get ! refl) (big (record { fits = lit< tt })) tt) refl (tt, tt) $
    first ! $ branches ! (get ! refl)
    (λ _. sets ! (agg ! (and_then ! (lit ! tt) (no_more !))) refl (tt, (record { fits = lit< tt }, tt)) $
    returns_within ! Post refl (look_at ! 0 refl) $ free_all ! refl $
    suffices ! _ (ends_at 𝓛 f.ended stayed c z (live 0 vnil) None (tt, tt) (tt, tt)) $ says ! (sym is) $
    nothing ! $ nothing ! $ fjoin ! $ join ! $ nothing ! $ join ! $ done !)
    (λ same. absurd (other (eqb→eq d.state macro_state (not_not _ same))))))
    -- it has one: [the block; the handle's allocator]
    (λ b o m is at marked.
    let w : Val = word (vptr b o) macro_state h in let v : D E =
    record { ptr = block_ptr b o; alloc = d.alloc; value = m }
    in
    let made : Val = block_word E h b o in let block : Blk.Denot = record
    { ptr = block_ptr b o; alloc = d.alloc; value = m } in
    let some : Val = live 1 (vcons made vnil) in let typed = box_typed E h b o good in
    let found = ws ∙ ap (λ (p : Ptr). word (ptr_val p) d.state h ∷ []) at ∙ ap (λ (n : ℕ). word (vptr b o) n h ∷ [])
    marked in
    fsplit ! $ box_in E ! v b o m refl refl $ use1 𝓛 (‵ (Blk.own_val block (made ∷ []))) (id⊢ 𝓤 _) $
    use1 𝓛 (‵ ((option.the_row Blk).own_val (Some block) (some ∷ []))) (Some-of 𝓛 Blk block made) $ keep ! (0 ∷ []) $
    suffices ! (Run (w ∷ [])) (subst (λ (us : List Val). ent 𝓤 (Run (w ∷ [])) (Run us)) (sym (λ i. found i ++ []))
    (id⊢ 𝓤 (Run (w ∷ [])))) $
    enter ! 𝓣.C 𝓣.Λ fn (w ∷ []) Post $
    alloc_all ! (λ l. pass_all ! refl (word_good (vptr b o) macro_state h (tt, tt) (lit< tt) good, tt) $
    sets ! (of_opd ! (get_in ! (fld ! refl (stop !)) (sub ! 0 refl (whole !)))) refl (tt, tt) $
    sets ! (of_opd ! (get_in ! (fld ! refl (stop !)) (sub ! 1 refl (whole !)))) refl (tt, record { fits = lit< tt }) $
    sets ! (of_opd ! (get_in ! (fld ! refl (stop !)) (sub ! 2 refl (whole !)))) refl good $
    sets ! (bin ! (get ! refl) (big (record { fits = lit< tt })) tt) refl (tt, tt) $
    first ! $ branches ! (get ! refl) (λ wrong. absurd wrong) (λ _. skips ! $
    exec ! 𝓣.C 𝓣.Λ (env code.Mir.locals l) code.Mir.t-6 (at_ret _ Post) $
    sets ! (of_opd ! (get ! refl)) refl (tt, tt) $
    sets ! (agg ! (and_then ! (get ! refl) (and_then ! (get ! refl) (no_more !)))) refl typed $
    sets ! (agg ! (and_then ! (lit ! tt) (and_then ! (get ! refl) (no_more !)))) refl
    (and_tt _ typed.0, (record { fits = lit< tt }, (typed.1, tt))) $
    returns ! (look_at ! 0 refl) $ free_all ! refl $
    suffices ! _ (ends_at 𝓛 f.ended stayed c z some (Some block) (tt, tt) (tt, tt)) $ says ! (sym is) $
    nothing ! $ nothing ! $ fjoin ! $ join ! $ nothing ! $ join ! $ done !)))))
