pub mod Table
pub mod OneText
pub mod Bodied
pub mod Looked
pub mod Laid
