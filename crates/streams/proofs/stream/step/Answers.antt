-- `streams::stream::step` meets its contract: each stage has its step.
-- Assumes nothing.
use mathlib.Core.Path.{sym, ap}
use Rattle.text.proofs.Putting.{put_none}
use Rattle.streams.proofs.Stepping.{took, took_as}
use Rattle.streams.specs.Stream.{stepped}
use Rattle.streams.specs.declared.Stage.{Stage}
use Rattle.streams.proofs.stream.step.Goals as goal

pub returns-in-Version : goal.returns-in-Version
unfolding stepped
returns-in-Version c = took_as (sym (ap (λ (s : Stage). stepped c.args.asked s c.args.input.now) c.in-Version.is)) c.step_version.ensures

pub returns-in-Frames : goal.returns-in-Frames
unfolding stepped
returns-in-Frames c = took_as (sym (ap (λ (s : Stage). stepped c.args.asked s c.args.input.now) c.in-Frames.is)) c.step_frame.ensures

pub returns-in-Skip : goal.returns-in-Skip
unfolding stepped
returns-in-Skip c = took_as (sym (ap (λ (s : Stage). stepped c.args.asked s c.args.input.now) c.in-Skip.is)) c.step_skip.ensures

pub returns-in-Done : goal.returns-in-Done
unfolding stepped
returns-in-Done c = took (ap (λ (s : Stage). stepped c.args.asked s c.args.input.now) c.in-Done.is) put_none
