use Rattle.std.proofs.Common.{◌+◌, take, drop, ap, sym, ◌∙◌}
use Rattle.port_io.specs.Reading.{Ahead}
use Rattle.port_io.specs.Lines.{ReaderState, StandsNext, with_lf}
use Rattle.port_io.specs.declared.lines.Line.TheVariants.{Text}
use Rattle.port_io.proofs.NextLemmas.{only-told, IfNone-any, Text-found, Ending-found, IsLine-found, with_lf-found, ending_is_shown, text_is_shown}
use Rattle.port_io.proofs.ReadingLemmas.{IfSome-read, prepend_known-given}
use Rattle.port_io.proofs.lines.LineReader.next_line.Goals as goal

pub returns-in-Whole-clause-input : goal.returns-in-Whole-clause-input
returns-in-Whole-clause-input g c =
    let held_of : ReaderState → _ = λ r. r.held in
    let ahead_of : Ahead → _ = λ a. a.held in
    let now = c.find_next.new in
    let n = c.in-Whole.length in
    let found = rw c.in-Whole.is at c.in_ok-length.ensures.found in
    rw c.give.ensures (prepend_known-given c.args.self.now.held c.forget.new.self.held now.ahead.held (with_lf (take n now.ahead.held)) (drop (n + 1) now.ahead.held)
    (g.S.Source.left c.args.source.now) (g.S.Source.left now.source) (sym (ap held_of c.self.view_is) ∙ sym (ap ahead_of c.forget.ensures)) c.find_next.ensures.reads
    (with_lf-found n now.ahead.held found))

pub returns-in-Whole-clause-text : goal.returns-in-Whole-clause-text
returns-in-Whole-clause-text g c =
    let found = rw c.in-Whole.is at c.in_ok-length.ensures.found in
    rw c.give.ensures (IsLine-found c.in-Whole.length c.find_next.new.ahead.held found)

pub returns-in-Whole-clause-answer : goal.returns-in-Whole-clause-answer
returns-in-Whole-clause-answer g c =
    let held_of : ReaderState → _ = λ r. r.held in
    let ahead_of : Ahead → _ = λ a. a.held in
    let now = c.find_next.new in
    let found = rw c.in-Whole.is at c.in_ok-length.ensures.found in
    IfNone-any _ (IfSome-read (StandsNext Text) c.args.self.now.held c.forget.new.self.held now.ahead.held _ (g.S.Source.left now.source)
    (sym (ap held_of c.self.view_is) ∙ sym (ap ahead_of c.forget.ensures)) c.find_next.ensures.reads
    (Text-found c.in-Whole.length now.ahead.held (g.S.Source.left now.source) found))

pub returns-in-Whole-clause-only : goal.returns-in-Whole-clause-only
returns-in-Whole-clause-only g c =
    let held_of : ReaderState → _ = λ r. r.held in
    let ahead_of : Ahead → _ = λ a. a.held in
    let now = c.find_next.new in
    let found = rw c.in-Whole.is at c.in_ok-length.ensures.found in
    IfNone-any _ (only-told _ Text (IfSome-read (StandsNext Text) c.args.self.now.held c.forget.new.self.held now.ahead.held _ (g.S.Source.left now.source)
    (sym (ap held_of c.self.view_is) ∙ sym (ap ahead_of c.forget.ensures)) c.find_next.ensures.reads
    (Text-found c.in-Whole.length now.ahead.held (g.S.Source.left now.source) found)))

pub returns-in-Ending-clause-answer : goal.returns-in-Ending-clause-answer
returns-in-Ending-clause-answer g c =
    let held_of : ReaderState → _ = λ r. r.held in
    let ahead_of : Ahead → _ = λ a. a.held in
    let now = c.find_next.new in
    let ending = c.in-Ending.ending in
    let found = rw c.in-Ending.is at c.in_ok-length.ensures.found in
    IfNone-any _ (IfSome-read (StandsNext ending) c.args.self.now.held c.forget.new.self.held now.ahead.held _ (g.S.Source.left now.source)
    (sym (ap held_of c.self.view_is) ∙ sym (ap ahead_of c.forget.ensures)) c.find_next.ensures.reads (Ending-found ending now.ahead.held (g.S.Source.left now.source) found))

pub returns-in-Ending-clause-only : goal.returns-in-Ending-clause-only
returns-in-Ending-clause-only g c =
    let held_of : ReaderState → _ = λ r. r.held in
    let ahead_of : Ahead → _ = λ a. a.held in
    let now = c.find_next.new in
    let ending = c.in-Ending.ending in
    let found = rw c.in-Ending.is at c.in_ok-length.ensures.found in
    IfNone-any _ (only-told _ ending (IfSome-read (StandsNext ending) c.args.self.now.held c.forget.new.self.held now.ahead.held _ (g.S.Source.left now.source)
    (sym (ap held_of c.self.view_is) ∙ sym (ap ahead_of c.forget.ensures)) c.find_next.ensures.reads (Ending-found ending now.ahead.held (g.S.Source.left now.source) found)))

pub returns-in-Whole-clause-shown : goal.returns-in-Whole-clause-shown
returns-in-Whole-clause-shown g c =
    let found = rw c.in-Whole.is at c.in_ok-length.ensures.found in
    rw c.give.ensures (IfNone-any _ (text_is_shown c.in-Whole.length c.find_next.new.ahead.held found))

pub returns-in-Ending-clause-shown : goal.returns-in-Ending-clause-shown
returns-in-Ending-clause-shown g c =
    let found = rw c.in-Ending.is at c.in_ok-length.ensures.found in
    IfNone-any _ (ending_is_shown c.in-Ending.ending c.find_next.new.ahead.held _ (g.S.Source.left c.find_next.new.source) found)
