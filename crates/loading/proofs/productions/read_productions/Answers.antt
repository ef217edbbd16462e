use Rattle.std.proofs.Common.{map, vec_items, sym, refl, ap, ◌∙◌, inl, inr, arith}
use Rattle.grammar.specs.Arcs.{with_argument, with_arguments, with_rules, with_productions}
use Rattle.grammar.specs.Grammar.{vocabulary_view, rule_view, production_view}
use Rattle.grammar.proofs.Boards.{arguments_push, rules_push, productions_push}
use Rattle.tables.specs.Chains.{one}
use Rattle.tables.specs.Reading.{occurrence}
use Rattle.tables.proofs.Free.{free_most}
use Rattle.tables.proofs.Along.{ended, halted, passed, stopped, more, not_both}
use Rattle.loading.proofs.Nesting.{target_wanted, target_refused, arguments_read, right_refused, rules_read, production_stops, rule_stops, told, told_either, not_full, full, room_left}
use Rattle.loading.proofs.productions.read_productions.Goals as goal
use Rattle.loading.proofs.productions.read_productions.Goals.{in-Err, in-Ok+in_default, in-Ok+in-Some+then-len-eq-MOST_PRODUCTIONS, in-Ok+in-Some+else-len-eq-MOST_PRODUCTIONS+in-Err-read_right_side, in-Ok+in-Some+else-len-eq-MOST_PRODUCTIONS+in-Ok-read_right_side+in-Err-follow, in-Ok+in-Some+else-len-eq-MOST_PRODUCTIONS+in-Ok-read_right_side+in-Ok-follow+in-Some-found+in-Err-target, in-Ok+in-Some+else-len-eq-MOST_PRODUCTIONS+in-Ok-read_right_side+in-Ok-follow+in-Some-found+in-Ok-target+in-Err-follow-2, in-Ok+in-Some+else-len-eq-MOST_PRODUCTIONS+in-Ok-read_right_side+in-Ok-follow+in-Some-found+in-Ok-target+in-Ok-follow-2+in-Some-found-2+then-len-eq-MOST_ARGUMENTS, in-Ok+in-Some+else-len-eq-MOST_PRODUCTIONS+in-Ok-read_right_side+in-Ok-follow+in-Some-found+in-Ok-target+in-Ok-follow-2+in-Some-found-2+else-len-eq-MOST_ARGUMENTS+in-Err-add_argument, in-Ok+in-Some+else-len-eq-MOST_PRODUCTIONS+in-Ok-read_right_side+in-Ok-follow+in-Some-found+in-Ok-target+in-Ok-follow-2+in_default-found-2+in-Err-add, in-Ok+in-Some+else-len-eq-MOST_PRODUCTIONS+in-Ok-read_right_side+in-Ok-follow+in_default-found+in-Err-finish}

pub rules-init : goal.rules-init
rules-init g c =
    let most = free_most c.read_right_side.new.reached in (
      omega (arith, c.read_right_side.array_long, c.new-rules.ensures.len),
      rw c.new-rules.ensures.items refl,
      record { gives = rw (c.new-rules.ensures.len, c.new-rules.ensures.items, c.link-rule_link.ensures) refl },
    )

pub arguments-preserved : goal.arguments-preserved
arguments-preserved g c =
    let v = vocabulary_view c.args.vocabulary.now in
    let t = c.in-Ok-target.target.occurrence in
    let less = not_full _ _ 8 c.len-in-arguments.ensures c.if-len-eq-MOST_ARGUMENTS.false c.arguments.invariant.0 in
    let added = c.in_default-add_argument.ensures in
    let board = added.board ∙ ap (λ b. with_argument v t b (occurrence c.in-Some-found-2.argument)) c.arguments.invariant.2
    ∙ sym (arguments_push v t (vec_items c.arguments.arguments) (occurrence c.in-Some-found-2.argument) c.rules.board)
    ∙ ap (λ os. with_arguments v t os c.rules.board) (sym added.items) in (
      omega (arith, added.len, less),
      omega (arith, c.in-Ok-follow-2.ensures.left, c.arguments.invariant.1),
      board,
      more c.arguments.invariant.3 c.in-Ok-follow-2.ensures.value c.in-Some-found-2.is less (added.value c.args.table.now.bytes.now (g.K.ValueKind.admitted c.args.kind.now) c.follow-in-arguments.new.reached) added.len c.next_link-argument_link.ensures,
    )

pub rules-preserved : goal.rules-preserved
rules-preserved g c =
    let bytes = c.args.table.now.bytes.now in
    let v = vocabulary_view c.args.vocabulary.now in
    let admitted = g.K.ValueKind.admitted c.args.kind.now in
    let added = c.in_default-add.ensures in
    let wanted = target_wanted bytes v admitted c.in-Some.production.w1 (vec_items c.in-Ok-read_right_side.right) (vec_items c.rules.rules.rules) c.in-Some-found.rule c.follow-in-rules.new.reached c.in-Ok-target.target.occurrence c.in-Ok-target.ensures.0 in
    let step = arguments_read bytes v admitted c.in-Some.production.w1 (vec_items c.in-Ok-read_right_side.right) (vec_items c.rules.rules.rules) c.in-Some-found.rule c.follow-in-rules.new.reached c.in-Ok-target.target.occurrence wanted
    (vec_items c.arguments.arguments) c.follow-in-arguments.new.reached _ (ended c.arguments.invariant.3 c.in-Ok-follow-2.ensures.value c.in_default-found-2.is) (added.value bytes v c.follow-in-arguments.new.reached) in
    let board = c.arguments.invariant.2 ∙ ap (with_arguments v c.in-Ok-target.target.occurrence (vec_items c.arguments.arguments)) c.rules.invariant.1
    ∙ sym (rules_push v (map rule_view (vec_items c.rules.rules.rules)) _ c.productions.board)
    ∙ ap (λ rs. with_rules v rs c.productions.board) (sym added.items) in (
      omega (arith, c.arguments.invariant.1, c.in-Ok-follow-2.ensures.left, added.len),
      board,
      more c.rules.invariant.2 c.in-Ok-follow.ensures.value c.in-Some-found.is (room_left _ _ _ _ c.in-Ok-follow.ensures.left (ap one c.in-Some-found.is) c.rules.invariant.0) step added.len c.next_link-rule_link.ensures,
    )

pub productions-preserved : goal.productions-preserved
productions-preserved g c =
    let bytes = c.args.table.now.bytes.now in
    let v = vocabulary_view c.args.vocabulary.now in
    let admitted = g.K.ValueKind.admitted c.args.kind.now in
    let before = map production_view (vec_items c.productions.productions) in
    let added = c.in_default-finish.ensures in
    let less = not_full _ _ 128 c.len.ensures c.if-len-eq-MOST_PRODUCTIONS.false c.productions.invariant.0 in
    let step = rules_read bytes v admitted before c.in-Some.production c.follow.new.reached (vec_items c.in-Ok-read_right_side.right) c.read_right_side.new.reached (c.in-Ok-read_right_side.ensures.value admitted) (map rule_view (vec_items c.rules.rules.rules)) c.follow-in-rules.new.reached _
    (ended c.rules.invariant.2 c.in-Ok-follow.ensures.value c.in_default-found.is) (added.value bytes admitted c.follow-in-rules.new.reached) in
    let board = c.rules.invariant.1 ∙ ap (with_rules v (map rule_view (vec_items c.rules.rules.rules))) c.productions.invariant.1
    ∙ sym (productions_push v before _ c.args.board.now)
    ∙ ap (λ ps. with_productions v ps c.args.board.now) (sym added.items) in (
      omega (arith, added.len, less),
      board,
      more c.productions.invariant.2 c.in-Ok.ensures.value c.in-Some.is less step added.len c.next_link-link.ensures,
    )

pub returns-in-Some-fault-clause-value : goal.returns-in-Some-fault-clause-value
returns-in-Some-fault-clause-value g c =
    let is = c.in-Some-fault.is in
    let bytes = c.args.table.now.bytes.now in
    let v = vocabulary_view c.args.vocabulary.now in
    let admitted = g.K.ValueKind.admitted c.args.kind.now in
    let before = map production_view (vec_items c.productions.productions) in
    elim c.match-follow.branch [
      | in-Err w ↦
          told is w.fault-is (halted c.productions.invariant.2 w.in-Err.ensures.value)
      | in-Ok+in_default w ↦
          absurd (not_both w.fault-is is)
      | in-Ok+in-Some+then-len-eq-MOST_PRODUCTIONS w ↦
          told is w.fault-is (passed c.productions.invariant.2 w.in-Ok.ensures.value w.in-Some.is (full _ _ 128 w.len.ensures w.if-len-eq-MOST_PRODUCTIONS.true))
      | in-Ok+in-Some+else-len-eq-MOST_PRODUCTIONS+in-Err-read_right_side w ↦
          elim (w.in-Err-read_right_side.ensures.value admitted) [
            | inl h ↦ told_either is w.fault-is (inl h)
            | inr h ↦ told is w.fault-is (stopped c.productions.invariant.2 w.in-Ok.ensures.value w.in-Some.is (not_full _ _ 128 w.len.ensures w.if-len-eq-MOST_PRODUCTIONS.false c.productions.invariant.0)
                (right_refused bytes v admitted before w.in-Some.production c.follow.new.reached _ h))
          ]
      | in-Ok+in-Some+else-len-eq-MOST_PRODUCTIONS+in-Ok-read_right_side+in-Err-follow w ↦
          told is w.fault-is (production_stops v admitted c.productions.invariant.2 w.in-Ok.ensures.value w.in-Some.is (not_full _ _ 128 w.len.ensures w.if-len-eq-MOST_PRODUCTIONS.false c.productions.invariant.0)
          (vec_items w.in-Ok-read_right_side.right) w.read_right_side.new.reached (w.in-Ok-read_right_side.ensures.value admitted)
          (halted w.rules.invariant.2 w.in-Err-follow.ensures.value))
      | in-Ok+in-Some+else-len-eq-MOST_PRODUCTIONS+in-Ok-read_right_side+in-Ok-follow+in-Some-found+in-Err-target w ↦
          told is w.fault-is (production_stops v admitted c.productions.invariant.2 w.in-Ok.ensures.value w.in-Some.is (not_full _ _ 128 w.len.ensures w.if-len-eq-MOST_PRODUCTIONS.false c.productions.invariant.0)
          (vec_items w.in-Ok-read_right_side.right) w.read_right_side.new.reached (w.in-Ok-read_right_side.ensures.value admitted)
          (stopped w.rules.invariant.2 w.in-Ok-follow.ensures.value w.in-Some-found.is (room_left _ _ _ _ w.in-Ok-follow.ensures.left (ap one w.in-Some-found.is) w.rules.invariant.0)
          (target_refused bytes v admitted w.in-Some.production.w1 (vec_items w.in-Ok-read_right_side.right) (vec_items w.rules.rules.rules) w.in-Some-found.rule w.follow-in-rules.new.reached _ w.in-Err-target.ensures)))
      | in-Ok+in-Some+else-len-eq-MOST_PRODUCTIONS+in-Ok-read_right_side+in-Ok-follow+in-Some-found+in-Ok-target+in-Err-follow-2 w ↦
          told is w.fault-is (production_stops v admitted c.productions.invariant.2 w.in-Ok.ensures.value w.in-Some.is (not_full _ _ 128 w.len.ensures w.if-len-eq-MOST_PRODUCTIONS.false c.productions.invariant.0)
          (vec_items w.in-Ok-read_right_side.right) w.read_right_side.new.reached (w.in-Ok-read_right_side.ensures.value admitted)
          (rule_stops v admitted w.in-Some.production.w1 (vec_items w.in-Ok-read_right_side.right) (vec_items w.rules.rules.rules) w.rules.invariant.2 w.in-Ok-follow.ensures.value w.in-Some-found.is (room_left _ _ _ _ w.in-Ok-follow.ensures.left (ap one w.in-Some-found.is) w.rules.invariant.0) w.in-Ok-target.ensures.0
          (halted w.arguments.invariant.3 w.in-Err-follow-2.ensures.value)))
      | in-Ok+in-Some+else-len-eq-MOST_PRODUCTIONS+in-Ok-read_right_side+in-Ok-follow+in-Some-found+in-Ok-target+in-Ok-follow-2+in-Some-found-2+then-len-eq-MOST_ARGUMENTS w ↦
          told is w.fault-is (production_stops v admitted c.productions.invariant.2 w.in-Ok.ensures.value w.in-Some.is (not_full _ _ 128 w.len.ensures w.if-len-eq-MOST_PRODUCTIONS.false c.productions.invariant.0)
          (vec_items w.in-Ok-read_right_side.right) w.read_right_side.new.reached (w.in-Ok-read_right_side.ensures.value admitted)
          (rule_stops v admitted w.in-Some.production.w1 (vec_items w.in-Ok-read_right_side.right) (vec_items w.rules.rules.rules) w.rules.invariant.2 w.in-Ok-follow.ensures.value w.in-Some-found.is (room_left _ _ _ _ w.in-Ok-follow.ensures.left (ap one w.in-Some-found.is) w.rules.invariant.0) w.in-Ok-target.ensures.0
          (passed w.arguments.invariant.3 w.in-Ok-follow-2.ensures.value w.in-Some-found-2.is (full _ _ 8 w.len-in-arguments.ensures w.if-len-eq-MOST_ARGUMENTS.true))))
      | in-Ok+in-Some+else-len-eq-MOST_PRODUCTIONS+in-Ok-read_right_side+in-Ok-follow+in-Some-found+in-Ok-target+in-Ok-follow-2+in-Some-found-2+else-len-eq-MOST_ARGUMENTS+in-Err-add_argument w ↦
          elim (w.in-Err-add_argument.ensures.value bytes admitted w.follow-in-arguments.new.reached) [
            | inl h ↦ told_either is w.fault-is (inl h)
            | inr h ↦ told is w.fault-is (production_stops v admitted c.productions.invariant.2 w.in-Ok.ensures.value w.in-Some.is (not_full _ _ 128 w.len.ensures w.if-len-eq-MOST_PRODUCTIONS.false c.productions.invariant.0)
                (vec_items w.in-Ok-read_right_side.right) w.read_right_side.new.reached (w.in-Ok-read_right_side.ensures.value admitted)
                (rule_stops v admitted w.in-Some.production.w1 (vec_items w.in-Ok-read_right_side.right) (vec_items w.rules.rules.rules) w.rules.invariant.2 w.in-Ok-follow.ensures.value w.in-Some-found.is (room_left _ _ _ _ w.in-Ok-follow.ensures.left (ap one w.in-Some-found.is) w.rules.invariant.0) w.in-Ok-target.ensures.0
                (stopped w.arguments.invariant.3 w.in-Ok-follow-2.ensures.value w.in-Some-found-2.is (not_full _ _ 8 w.len-in-arguments.ensures w.if-len-eq-MOST_ARGUMENTS.false w.arguments.invariant.0) h)))
          ]
      | in-Ok+in-Some+else-len-eq-MOST_PRODUCTIONS+in-Ok-read_right_side+in-Ok-follow+in-Some-found+in-Ok-target+in-Ok-follow-2+in_default-found-2+in-Err-add w ↦
          elim (w.in-Err-add.ensures.value bytes v w.follow-in-arguments.new.reached) [
            | inl h ↦ told_either is w.fault-is (inl h)
            | inr h ↦ told is w.fault-is (production_stops v admitted c.productions.invariant.2 w.in-Ok.ensures.value w.in-Some.is (not_full _ _ 128 w.len.ensures w.if-len-eq-MOST_PRODUCTIONS.false c.productions.invariant.0)
                (vec_items w.in-Ok-read_right_side.right) w.read_right_side.new.reached (w.in-Ok-read_right_side.ensures.value admitted)
                (stopped w.rules.invariant.2 w.in-Ok-follow.ensures.value w.in-Some-found.is (room_left _ _ _ _ w.in-Ok-follow.ensures.left (ap one w.in-Some-found.is) w.rules.invariant.0)
                (arguments_read bytes v admitted w.in-Some.production.w1 (vec_items w.in-Ok-read_right_side.right) (vec_items w.rules.rules.rules) w.in-Some-found.rule w.follow-in-rules.new.reached _
                (target_wanted bytes v admitted w.in-Some.production.w1 (vec_items w.in-Ok-read_right_side.right) (vec_items w.rules.rules.rules) w.in-Some-found.rule w.follow-in-rules.new.reached _ w.in-Ok-target.ensures.0)
                _ _ _ (ended w.arguments.invariant.3 w.in-Ok-follow-2.ensures.value w.in_default-found-2.is) h)))
          ]
      | in-Ok+in-Some+else-len-eq-MOST_PRODUCTIONS+in-Ok-read_right_side+in-Ok-follow+in_default-found+in-Err-finish w ↦
          elim (w.in-Err-finish.ensures.value bytes admitted w.follow-in-rules.new.reached) [
            | inl h ↦ told_either is w.fault-is (inl h)
            | inr h ↦ told is w.fault-is (stopped c.productions.invariant.2 w.in-Ok.ensures.value w.in-Some.is (not_full _ _ 128 w.len.ensures w.if-len-eq-MOST_PRODUCTIONS.false c.productions.invariant.0)
                (rules_read bytes v admitted before w.in-Some.production c.follow.new.reached _ _ (w.in-Ok-read_right_side.ensures.value admitted) _ _ _
                (ended w.rules.invariant.2 w.in-Ok-follow.ensures.value w.in_default-found.is) h))
          ]
    ]

pub returns-in-None : goal.returns-in-None
returns-in-None g c =
    let is = c.in-None.is in
    elim c.match-follow.branch [
      | in-Err w ↦ absurd (not_both is w.fault-is)
      | in-Ok+in_default w ↦ record {
        value = rw (w.productions-is, w.reached-is) (ended c.productions.invariant.2 w.in-Ok.ensures.value w.in_default.is);
        board = rw (w.productions-is, w.board-is) c.productions.invariant.1;
      }
      | in-Ok+in-Some+then-len-eq-MOST_PRODUCTIONS w ↦ absurd (not_both is w.fault-is)
      | in-Ok+in-Some+else-len-eq-MOST_PRODUCTIONS+in-Err-read_right_side w ↦ absurd (not_both is w.fault-is)
      | in-Ok+in-Some+else-len-eq-MOST_PRODUCTIONS+in-Ok-read_right_side+in-Err-follow w ↦ absurd (not_both is w.fault-is)
      | in-Ok+in-Some+else-len-eq-MOST_PRODUCTIONS+in-Ok-read_right_side+in-Ok-follow+in-Some-found+in-Err-target w ↦ absurd (not_both is w.fault-is)
      | in-Ok+in-Some+else-len-eq-MOST_PRODUCTIONS+in-Ok-read_right_side+in-Ok-follow+in-Some-found+in-Ok-target+in-Err-follow-2 w ↦ absurd (not_both is w.fault-is)
      | in-Ok+in-Some+else-len-eq-MOST_PRODUCTIONS+in-Ok-read_right_side+in-Ok-follow+in-Some-found+in-Ok-target+in-Ok-follow-2+in-Some-found-2+then-len-eq-MOST_ARGUMENTS w ↦ absurd (not_both is w.fault-is)
      | in-Ok+in-Some+else-len-eq-MOST_PRODUCTIONS+in-Ok-read_right_side+in-Ok-follow+in-Some-found+in-Ok-target+in-Ok-follow-2+in-Some-found-2+else-len-eq-MOST_ARGUMENTS+in-Err-add_argument w ↦ absurd (not_both is w.fault-is)
      | in-Ok+in-Some+else-len-eq-MOST_PRODUCTIONS+in-Ok-read_right_side+in-Ok-follow+in-Some-found+in-Ok-target+in-Ok-follow-2+in_default-found-2+in-Err-add w ↦ absurd (not_both is w.fault-is)
      | in-Ok+in-Some+else-len-eq-MOST_PRODUCTIONS+in-Ok-read_right_side+in-Ok-follow+in_default-found+in-Err-finish w ↦ absurd (not_both is w.fault-is)
    ]
