-- A line as it is gone through.
use Rattle.std.specs.Prelude.{◌≡◌, ◌≤◌, length}
use Rattle.layout.specs.declared.frame.Frame.{Frame}
use Rattle.layout.specs.Layout.{leading}
use Rattle.sheet.specs.declared.walk.Line.{Line}

-- a frame's line
pub record IsLineOf (l : Line) (f : Frame) : Type 0 where
  pub kind : l.kind ≡ f.kind
  pub lead : l.lead.now ≡ leading f
  pub few : length l.lead.now ≤ 4
  pub rest : l.rest.now ≡ f.rest
  pub count : l.count ≡ f.count
